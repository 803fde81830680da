-- One more turn of a list, and no more.
use Rattle.std.proofs.Common.{rules, arith}
use Rattle.std.proofs.lemmas.Grind.{common_steps}
use Rattle.gmpl_blocks.proofs.Turns.{one_more, no_more}
use Rattle.gmpl_blocks.specs.Symbols.{slots_from}
use Rattle.gmpl_blocks.proofs.symbols.further_slots.Goals as goal

pub returns-then-eat : goal.returns-then-eat
unfolding slots_from
returns-then-eat c =
    let e = one_more (λ n. slots_from c.args.close n c.loop-turn.found c.loop-turn.tokens) _ c.loop-turn._turn c.loop-turn-test.true c.loop-turn.invariant in
    first_of (search rules, grind (arith, common_steps))

pub returns-in_err-next_slot : goal.returns-in_err-next_slot
unfolding slots_from
returns-in_err-next_slot c =
    let e = one_more (λ n. slots_from c.args.close n c.loop-turn.found c.loop-turn.tokens) _ c.loop-turn._turn c.loop-turn-test.true c.loop-turn.invariant in
    first_of (search rules, grind (arith, common_steps))

pub loop-turn-preserved : goal.loop-turn-preserved
unfolding slots_from
loop-turn-preserved c =
    let e = one_more (λ n. slots_from c.args.close n c.loop-turn.found c.loop-turn.tokens) _ c.loop-turn._turn c.loop-turn-test.true c.loop-turn.invariant in
    first_of (search rules, grind (arith, common_steps))

pub returns : goal.returns
unfolding slots_from
returns c =
    let e = no_more (λ n. slots_from c.args.close n c.loop-turn.found c.loop-turn.tokens) _ c.loop-turn._turn c.loop-turn-test.false c.loop-turn.invariant in
    first_of (search rules, grind (arith, common_steps))
