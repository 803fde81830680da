use Rattle.std.proofs.Common.{◌≡◌, ◌++◌, take, map}
use Rattle.basis.specs.Node.{row_bounds}
use Rattle.simplex.proofs.relaxation.add_bounds.Given as goal

abbrev pub invariant-loop-row : goal.invariant-loop-row
invariant-loop-row l = l.bounds.items ≡ l.initial.bounds.items ++ map row_bounds (take l.row-index l.rows)
