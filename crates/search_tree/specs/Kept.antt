-- What a board keeps, and which points it covers.
use Rattle.std.specs.Prelude.{ℕ, ◌+◌, ◌≤◌, ◌≡◌, true, List, [], length, take, Option, Some, None, IfSome, slice_get, Ok}
use Rattle.std.specs.List.{AllByRecursion}
use Rattle.rational.specs.Rational.{Rational, ◌≤ℚ◌, ◌*ℚ◌}
use Rattle.milp.specs.Problem.{Problem}
use Rattle.milp.specs.Points.{Feasible, objective_value, sign_of}
use Rattle.instance.specs.Sums.{value_answer, meets_answer}
use Rattle.verdicts.specs.Certificate.{Two, Side, Derived, TreeNode, Empty, Bound}
use Rattle.verdicts.specs.Proves.{TakesAll}
use Rattle.cert_check.specs.Parts.{derived_answer}
use Rattle.search_tree.specs.declared.leaf.Leaf.{Leaf}
use Rattle.search_tree.specs.declared.leaf.Leaf.TheVariants.{Todo, Treated, Leased, Refuted, Bounded, NotFitting, AtLimit}
use Rattle.search_tree.specs.declared.event.Entry.{Entry}
use Rattle.search_tree.specs.Tree.{AllSplits, AllLeaves, SomeLeaf, made, granted, leased_under}
use Rattle.search_tree.specs.Nodes.{IsHonestSplit, Beats, KeepsLeaf}
use Rattle.search_tree.specs.Board.{Board, value_of, value_told}

-- the sums along the columns and rows, and of the objective, at the point fit
pub record HasSums (p : Problem) (x : List Rational) : Type 0 where
  pub meets : meets_answer p x ≡ Ok true
  pub value : value_answer p x ≡ Ok (objective_value p x)

-- the checker's test of each cut passes, which may use those before it, and all its operations fit
abbrev pub AllPass : Problem → List Derived → Type 0
AllPass p cuts = (k : ℕ) → IfSome (slice_get cuts k) (λ d. derived_answer p Two (take k cuts) d ≡ Ok true)

-- v is no better than the best value, which there is
abbrev pub IsNoBetter : Problem → Option Rational → Rational → Type 0
IsNoBetter p None v = ⊥
IsNoBetter p (Some best) v = sign_of p.direction *ℚ best ≤ℚ sign_of p.direction *ℚ v

pub record IsKept (b : Board) : Type 0 where
  pub best : IfSome b.best (λ x. Feasible b.problem x × HasSums b.problem x)
  pub replies : AllByRecursion (λ (e : Entry). IfSome (value_told e.reply) (IsNoBetter b.problem (value_of b))) b.log
  pub cuts : AllPass b.problem b.cuts
  pub splits : AllSplits (IsHonestSplit b.problem b.cuts) [] b.tree
  pub leaves : AllLeaves (KeepsLeaf b.problem b.cuts b.pivot_limit (value_of b)) [] b.tree
  pub within : made b.tree + granted b.tree ≤ b.split_limit
  pub one_lease : (n : ℕ) → leased_under n b.tree ≤ 1
  pub none_to_come : (n : ℕ) → length b.log ≤ n → leased_under n b.tree ≡ 0

-- ---- points that may still be found

-- the node of a certificate that a closed leaf is
abbrev pub closed_node : Leaf → Option TreeNode
closed_node (Todo hint) = None
closed_node (Treated hint) = None
closed_node (Leased lease) = None
closed_node (Refuted w) = Some (Empty w)
closed_node (Bounded w) = Some (Bound w)
closed_node (NotFitting e) = None
closed_node (AtLimit bases) = None

-- x lies in a leaf that is not closed: it is on the side taken of each split on the way to it
abbrev pub LiesIn : List Rational → List Side → Leaf → Type 0
LiesIn x sides leaf = (closed_node leaf ≡ None) × TakesAll x sides

-- each feasible point that is better than the best lies in a leaf that is not closed
pub record IsCovered (b : Board) : Type 0 where
  pub covers : (x : List Rational) → Feasible b.problem x → Beats b.problem (value_of b) x → SomeLeaf (LiesIn x) [] b.tree
