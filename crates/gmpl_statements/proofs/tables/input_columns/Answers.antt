-- One more turn of a list, and no more.
use Rattle.std.proofs.Common.{rules, arith}
use Rattle.std.proofs.lemmas.Grind.{common_steps}
use Rattle.gmpl_input.proofs.Turns.{one_more, no_more}
use Rattle.gmpl_input.specs.Rules.{further, further_from}
use Rattle.gmpl_statements.specs.Tables.{input_column}
use Rattle.gmpl_statements.proofs.tables.input_columns.Goals as goal

pub returns-then-not-eat : goal.returns-then-not-eat
unfolding further_from
returns-then-not-eat c =
    let e = one_more (λ n. further_from input_column n c.loop-turn.found c.loop-turn.tokens) _ c.loop-turn._turn c.loop-turn-test.true c.loop-turn.invariant in
    first_of (search rules, grind (arith, common_steps))

pub returns-in_err-input_column : goal.returns-in_err-input_column
unfolding further_from
returns-in_err-input_column c =
    let e = one_more (λ n. further_from input_column n c.loop-turn.found c.loop-turn.tokens) _ c.loop-turn._turn c.loop-turn-test.true c.loop-turn.invariant in
    first_of (search rules, grind (arith, common_steps))

pub loop-turn-preserved : goal.loop-turn-preserved
unfolding further_from
loop-turn-preserved c =
    let e = one_more (λ n. further_from input_column n c.loop-turn.found c.loop-turn.tokens) _ c.loop-turn._turn c.loop-turn-test.true c.loop-turn.invariant in
    first_of (search rules, grind (arith, common_steps))

pub returns : goal.returns
unfolding further_from
returns c =
    let e = no_more (λ n. further_from input_column n c.loop-turn.found c.loop-turn.tokens) _ c.loop-turn._turn c.loop-turn-test.false c.loop-turn.invariant in
    first_of (search rules, grind (arith, common_steps))
