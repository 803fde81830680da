use Rattle.std.proofs.Common.{◌≡◌, ◌++◌, drop}
use Rattle.infeasible_subset.specs.Listed.{column_bounds}
use Rattle.infeasible_subset.proofs.bounds.add_columns.Given as goal

abbrev pub invariant-loop-column : goal.invariant-loop-column
invariant-loop-column l = (l.place ≡ l.column-index) × (l.initial.members.items ++ column_bounds 0 l.columns ≡ l.members.items ++ column_bounds l.column-index (drop l.column-index l.columns))
