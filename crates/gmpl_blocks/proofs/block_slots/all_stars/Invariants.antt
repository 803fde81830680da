-- The slots so far, and then the rest.
use Rattle.std.proofs.Common.{◌≡◌, ◌++◌, ◌-◌}
use Rattle.gmpl_blocks.specs.Slots.{all_stars}
use Rattle.gmpl_blocks.proofs.block_slots.all_stars.Given as goal

abbrev pub invariant-loop-slot : goal.invariant-loop-slot
invariant-loop-slot l = all_stars l.dimension ≡ l.slots ++ all_stars (l.dimension - l._slot)
