-- What is filled, and then the rest.
use Rattle.std.proofs.Common.{◌≡◌, ◌++◌, drop}
use Rattle.gmpl_blocks.specs.Slots.{filled}
use Rattle.gmpl_blocks.proofs.block_slots.filled.Given as goal

abbrev pub invariant-loop-slot : goal.invariant-loop-slot
invariant-loop-slot l = filled l.slots l.first l.second ≡ l.made ++ filled (drop l.slot-index l.slots) l.next l.second
