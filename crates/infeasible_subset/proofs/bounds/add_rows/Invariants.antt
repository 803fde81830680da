use Rattle.std.proofs.Common.{◌≡◌, ◌++◌, drop}
use Rattle.infeasible_subset.specs.Listed.{row_bounds}
use Rattle.infeasible_subset.proofs.bounds.add_rows.Given as goal

abbrev pub invariant-loop-row : goal.invariant-loop-row
invariant-loop-row l = (l.place ≡ l.row-index) × (l.initial.members.items ++ row_bounds 0 l.rows ≡ l.members.items ++ row_bounds l.row-index (drop l.row-index l.rows))
