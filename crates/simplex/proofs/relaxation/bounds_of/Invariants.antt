use Rattle.std.proofs.Common.{◌≡◌, take, map}
use Rattle.simplex.specs.Bounds.{column_bounds}
use Rattle.simplex.proofs.relaxation.bounds_of.Given as goal

abbrev pub invariant-loop-column : goal.invariant-loop-column
invariant-loop-column l = l.bounds.items ≡ map column_bounds (take l.column-index l.columns)
