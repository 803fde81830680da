use Rattle.std.proofs.Common.{◌≡◌, ◌++◌, drop}
use Rattle.exact_ranges.specs.Sought.{side_of}
use Rattle.exact_ranges.specs.BoundParts.{without_at}
use Rattle.exact_ranges.proofs.bound_rows.add_others.Given as goal

abbrev pub invariant-loop-row : goal.invariant-loop-row
invariant-loop-row l = (l.place ≡ l.row-index) × (l.initial.made.items ++ without_at 0 l.moved (side_of l.side) l.rows ≡ l.made.items ++ without_at l.row-index l.moved (side_of l.side) (drop l.row-index l.rows))
