-- One more turn, and no more.
use Rattle.std.proofs.Common.{rules, arith}
use Rattle.std.proofs.lemmas.Grind.{common_steps}
use Rattle.gmpl_input.proofs.Turns.{one_more, no_more}
use Rattle.gmpl_statements.specs.Tables.{arguments, arguments_from}
use Rattle.gmpl_statements.proofs.tables.arguments.Goals as goal

pub returns-then-sees : goal.returns-then-sees
unfolding arguments_from
returns-then-sees c =
    let e = one_more (λ n. arguments_from c.args.reader.depth n c.loop-turn.tokens) _ c.loop-turn._turn c.loop-turn-test.true c.loop-turn.invariant in
    first_of (search rules, grind (arith, common_steps))

pub returns-in_err-argument : goal.returns-in_err-argument
unfolding arguments_from
returns-in_err-argument c =
    let e = one_more (λ n. arguments_from c.args.reader.depth n c.loop-turn.tokens) _ c.loop-turn._turn c.loop-turn-test.true c.loop-turn.invariant in
    first_of (search rules, grind (arith, common_steps))

pub loop-turn-preserved : goal.loop-turn-preserved
unfolding arguments_from
loop-turn-preserved c =
    let e = one_more (λ n. arguments_from c.args.reader.depth n c.loop-turn.tokens) _ c.loop-turn._turn c.loop-turn-test.true c.loop-turn.invariant in
    first_of (search rules, grind (arith, common_steps))

pub returns : goal.returns
unfolding arguments_from
returns c =
    let e = no_more (λ n. arguments_from c.args.reader.depth n c.loop-turn.tokens) _ c.loop-turn._turn c.loop-turn-test.false c.loop-turn.invariant in
    first_of (search rules, grind (arith, common_steps))
