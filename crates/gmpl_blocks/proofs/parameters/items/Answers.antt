-- One more item, and no more.
use Rattle.std.proofs.Common.{rules, arith}
use Rattle.std.proofs.lemmas.Grind.{common_steps}
use Rattle.gmpl_blocks.proofs.Turns.{one_more, no_more}
use Rattle.gmpl_blocks.specs.Parameters.{items_from}
use Rattle.gmpl_blocks.proofs.parameters.items.Goals as goal

pub returns-then-eat : goal.returns-then-eat
unfolding items_from
returns-then-eat c =
    let e = one_more (λ n. items_from c.args.dimension n c.loop-turn.block c.loop-turn.tokens) _ c.loop-turn._turn c.loop-turn-test.true c.loop-turn.invariant in
    first_of (search rules, grind (arith, common_steps))

pub returns-in_err-block : goal.returns-in_err-block
unfolding items_from
returns-in_err-block c =
    let e = one_more (λ n. items_from c.args.dimension n c.loop-turn.block c.loop-turn.tokens) _ c.loop-turn._turn c.loop-turn-test.true c.loop-turn.invariant in
    first_of (search rules, grind (arith, common_steps))

pub loop-turn-preserved : goal.loop-turn-preserved
unfolding items_from
loop-turn-preserved c =
    let e = one_more (λ n. items_from c.args.dimension n c.loop-turn.block c.loop-turn.tokens) _ c.loop-turn._turn c.loop-turn-test.true c.loop-turn.invariant in
    first_of (search rules, grind (arith, common_steps))

pub returns : goal.returns
unfolding items_from
returns c =
    let e = no_more (λ n. items_from c.args.dimension n c.loop-turn.block c.loop-turn.tokens) _ c.loop-turn._turn c.loop-turn-test.false c.loop-turn.invariant in
    first_of (search rules, grind (arith, common_steps))
