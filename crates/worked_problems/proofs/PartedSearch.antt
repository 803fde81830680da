-- min x, 1 <= 3 x <= 2, x >= 0 and whole: its search is not hindered.
use Rattle.std.proofs.Common.{ℕ, List, [], ◌∷◌, sym, subst}
use Rattle.verdicts.specs.Certificate.{Side, Low, High}
use Rattle.fraction.specs.declared.frac.NoFit.{NoFit}
use Rattle.basis.specs.Node.{system_of}
use Rattle.basis.specs.declared.Place.{Place}
use Rattle.search_node.specs.Sides.{sides_of}
use Rattle.simplex.specs.Run.{IsLimited}
use Rattle.search_tree.specs.Work.{IsWorkFault}
use Rattle.worked_problems.specs.Problems.{parted, at_zero}
use Rattle.branch_search.specs.declared.whole_fault.Wanted.TheVariants.{Best, Any}
use Rattle.worked_problems.specs.Unhindered.{IsUnhindered, AreUnhindered}
use Rattle.worked_problems.proofs.Unsplit.{kept_splits}
use Rattle.worked_problems.proofs.OneRow.{BasisLaws}
use Rattle.worked_problems.proofs.PartedX as root
use Rattle.worked_problems.proofs.PartedSides.{low_no_fault, low_never_limited, high_no_fault, high_never_limited}
use Rattle.worked_problems.proofs.PartedSplits.{IsNode, node_is, one_made, no_ray}

at_nodes : (P : List Side → Type 0) → P [] → P (Low at_zero ∷ []) → P (High at_zero ∷ []) → (sides : List Side) → IsNode sides → P sides
at_nodes P root low high sides (IsNode.root e) = subst P (sym e) root
at_nodes P root low high sides (IsNode.low e) = subst P (sym e) low
at_nodes P root low high sides (IsNode.high e) = subst P (sym e) high

module _ (laws : BasisLaws) where
  no_fault : (sides : List Side) → IsNode sides → (e : NoFit) → ¬ (IsWorkFault parted [] sides e)
  no_fault = at_nodes (λ sides. (e : NoFit) → ¬ (IsWorkFault parted [] sides e)) (root.no_fault laws) (low_no_fault laws) (high_no_fault laws)

  never_limited : (sides : List Side) → IsNode sides → (limit : ℕ) → (bases : List (List Place)) → ¬ (IsLimited (system_of parted [] sides) limit bases)
  never_limited = at_nodes (λ sides. (limit : ℕ) → (bases : List (List Place)) → ¬ (IsLimited (system_of parted [] sides) limit bases)) (root.never_limited laws) (low_never_limited laws) (high_never_limited laws)

  is_unhindered : IsUnhindered parted 1
  is_unhindered = record {
    fits = λ splits site h. no_fault (sides_of site.node.splits) (node_is _ h.way.splits) site.fault h.fault;
    ends = λ splits pivots bases h. never_limited h.sides (node_is _ h.way.splits) pivots bases h.limited;
    few_splits = λ board kept same none. one_made board.tree (kept_splits parted board kept same none);
  }

  pub are_unhindered : AreUnhindered parted 1
  are_unhindered Best none = is_unhindered
  are_unhindered Any ray = absurd (no_ray ray.0 ray.1)
