-- One more turn of a list, and no more.
use Rattle.std.proofs.Common.{rules, arith}
use Rattle.std.proofs.lemmas.Grind.{common_steps}
use Rattle.gmpl_input.proofs.Turns.{one_more, no_more}
use Rattle.gmpl_statements.specs.Actions.{heads_from}
use Rattle.gmpl_statements.proofs.actions.more_heads.Goals as goal

pub returns-then-not-is_for : goal.returns-then-not-is_for
unfolding heads_from
returns-then-not-is_for c =
    let e = one_more (λ n. heads_from c.args.reader.depth n c.loop-turn.found c.loop-turn.tokens) _ c.loop-turn._turn c.loop-turn-test.true c.loop-turn.invariant in
    first_of (search rules, grind (arith, common_steps))

pub returns-in_err-one_head : goal.returns-in_err-one_head
unfolding heads_from
returns-in_err-one_head c =
    let e = one_more (λ n. heads_from c.args.reader.depth n c.loop-turn.found c.loop-turn.tokens) _ c.loop-turn._turn c.loop-turn-test.true c.loop-turn.invariant in
    first_of (search rules, grind (arith, common_steps))

pub loop-turn-preserved : goal.loop-turn-preserved
unfolding heads_from
loop-turn-preserved c =
    let e = one_more (λ n. heads_from c.args.reader.depth n c.loop-turn.found c.loop-turn.tokens) _ c.loop-turn._turn c.loop-turn-test.true c.loop-turn.invariant in
    first_of (search rules, grind (arith, common_steps))

pub returns : goal.returns
unfolding heads_from
returns c =
    let e = no_more (λ n. heads_from c.args.reader.depth n c.loop-turn.found c.loop-turn.tokens) _ c.loop-turn._turn c.loop-turn-test.false c.loop-turn.invariant in
    first_of (search rules, grind (arith, common_steps))
