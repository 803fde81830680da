-- One more slot, and no more.
use Rattle.std.proofs.Common.{◌++◌, rules, arith}
use Rattle.std.proofs.lemmas.Grind.{common_steps}
use Rattle.gmpl_blocks.proofs.Turns.{one_more, no_more}
use Rattle.gmpl_blocks.specs.Slots.{all_stars}
use Rattle.gmpl_blocks.proofs.block_slots.all_stars.Goals as goal

pub loop-slot-preserved : goal.loop-slot-preserved
loop-slot-preserved c =
    let e = one_more (λ n. c.loop-slot.slots ++ all_stars n) _ c.loop-slot._slot c.loop-slot-test.true c.loop-slot.invariant in
    first_of (search rules, grind (arith, common_steps))

pub returns : goal.returns
returns c =
    let e = no_more (λ n. c.loop-slot.slots ++ all_stars n) _ c.loop-slot._slot c.loop-slot-test.false c.loop-slot.invariant in
    first_of (search rules, grind (arith, common_steps))
