-- What is left to fill.
use Rattle.std.proofs.Common.{◌≡◌, drop}
use Rattle.gmpl_blocks.specs.Slots.{tuple, tuple_from}
use Rattle.gmpl_blocks.proofs.block_slots.tuple.Given as goal

abbrev pub invariant-loop-slot : goal.invariant-loop-slot
invariant-loop-slot l = tuple l.slots l.fn.tokens ≡ tuple_from (drop l.slot-index l.slots) l.found l.tokens
