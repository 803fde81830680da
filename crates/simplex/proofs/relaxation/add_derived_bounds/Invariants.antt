use Rattle.std.proofs.Common.{◌≡◌, ◌++◌, take, map}
use Rattle.basis.specs.Node.{derived_bounds}
use Rattle.simplex.proofs.relaxation.add_derived_bounds.Given as goal

abbrev pub invariant-loop-row : goal.invariant-loop-row
invariant-loop-row l = l.bounds.items ≡ l.initial.bounds.items ++ map derived_bounds (take l.row-index l.derived)
