-- Where no split of the root is honest, the root is all that is searched.
use Rattle.std.proofs.Common.{◌≡◌, ℕ, ◌≤◌, List, [], ◌∷◌, Bool, true, false, subst, arith}
use Rattle.milp.specs.Problem.{Problem}
use Rattle.verdicts.specs.Certificate.{Derived, Side, Low, High, Split}
use Rattle.certificate.specs.Written.{split_column}
use Rattle.fraction.specs.declared.frac.NoFit.{NoFit}
use Rattle.basis.specs.Node.{system_of, integer_at}
use Rattle.basis.specs.declared.Place.{Place}
use Rattle.search_node.specs.Sides.{sides_of}
use Rattle.simplex.specs.Run.{IsLimited}
use Rattle.search_tree.specs.Board.{Board}
use Rattle.search_tree.specs.Kept.{IsKept}
use Rattle.search_tree.specs.Honest.{AreHonest}
use Rattle.search_tree.specs.Nodes.{IsHonestSplit}
use Rattle.search_tree.specs.Tree.{Tree, Divided, AtLeaf, AllSplits, made}
use Rattle.search_tree.specs.Work.{IsWorkFault}
use Rattle.worked_problems.specs.Unhindered.{IsUnhindered}

-- a split is of a column that is to be whole
pub none_whole : (p : Problem) → ((j : ℕ) → integer_at p j ≡ false) → (s : Split) → ¬ (IsHonestSplit p [] [] s)
none_whole p real s h = true_or_false (integer_at p (split_column s)) h.integer (real (split_column s))
  where
    true_or_false : (t : Bool) → t ≡ true → t ≡ false → ⊥
    true_or_false t e f = cc

-- the splits of a board that is kept are honest
pub kept_splits : (p : Problem) (board : Board) → IsKept board → board.problem ≡ p → board.cuts ≡ [] → AllSplits (IsHonestSplit p []) [] board.tree
kept_splits p board kept same none =
    subst (λ q. AllSplits (IsHonestSplit q []) [] board.tree) same (subst (λ (ds : List Derived). AllSplits (IsHonestSplit board.problem ds) [] board.tree) none kept.splits)

module _ (p : Problem) (no_split : (s : Split) → ¬ (IsHonestSplit p [] [] s)) where
  none_honest : (side : Side) (above : List Side) → ¬ (AreHonest p [] (side ∷ above))
  none_honest (Low s) [] h = no_split s h.0
  none_honest (High s) [] h = no_split s h.0
  none_honest (Low s) (side ∷ above) h = none_honest side above h.1
  none_honest (High s) (side ∷ above) h = none_honest side above h.1

  -- what holds of the root holds of each node on an honest way
  at_root : (P : List Side → Type 0) → P [] → (sides : List Side) → AreHonest p [] sides → P sides
  at_root P root [] way = root
  at_root P root (side ∷ above) way = absurd (none_honest side above way)

  none_made : (t : Tree) → AllSplits (IsHonestSplit p []) [] t → made t ≤ 0
  none_made (Divided s low high) h = absurd (no_split s h.0)
  none_made (AtLeaf leaf) h = omega arith

  pub unhindered : ((e : NoFit) → ¬ (IsWorkFault p [] [] e)) → ((limit : ℕ) → (bases : List (List Place)) → ¬ (IsLimited (system_of p [] []) limit bases)) → IsUnhindered p 0
  unhindered no_fault no_limit = record {
    fits = λ splits site h. at_root (λ sides. (e : NoFit) → ¬ (IsWorkFault p [] sides e)) no_fault (sides_of site.node.splits) h.way.splits site.fault h.fault;
    ends = λ splits pivots bases h. at_root (λ sides. (limit : ℕ) → (of : List (List Place)) → ¬ (IsLimited (system_of p [] sides) limit of)) no_limit h.sides h.way.splits pivots bases h.limited;
    few_splits = λ board kept same none. none_made board.tree (kept_splits p board kept same none);
  }
