use Rattle.std.proofs.Common.{◌≡◌, ◌++◌, drop, map}
use Rattle.infeasible_subset.specs.Subsets.{column_used}
use Rattle.infeasible_subset.proofs.bounds.add_columns_used.Given as goal

abbrev pub invariant-loop-item : goal.invariant-loop-item
invariant-loop-item l = l.initial.members.items ++ map column_used l.items ≡ l.members.items ++ map column_used (drop l.item-index l.items)
