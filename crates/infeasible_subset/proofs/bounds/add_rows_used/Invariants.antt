use Rattle.std.proofs.Common.{◌≡◌, ◌++◌, drop, map}
use Rattle.infeasible_subset.specs.Subsets.{row_used}
use Rattle.infeasible_subset.proofs.bounds.add_rows_used.Given as goal

abbrev pub invariant-loop-item : goal.invariant-loop-item
invariant-loop-item l = l.initial.members.items ++ map row_used l.items ≡ l.members.items ++ map row_used (drop l.item-index l.items)
