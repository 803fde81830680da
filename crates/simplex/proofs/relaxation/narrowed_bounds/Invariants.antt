use Rattle.std.proofs.Common.{◌≡◌, length, take}
use Rattle.search_node.specs.Sides.{sides_of}
use Rattle.basis.specs.Node.{column_bounds}
use Rattle.simplex.proofs.relaxation.narrowed_bounds.Given as goal

abbrev pub invariant-loop-taken : goal.invariant-loop-taken
invariant-loop-taken l = l.bounds.items ≡ column_bounds l.instance (sides_of (take l.taken-index l.splits)) 0 (length l.instance.columns)
