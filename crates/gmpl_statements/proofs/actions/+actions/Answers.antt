-- One more turn of a list, and no more.
use Rattle.std.proofs.Common.{rules, arith}
use Rattle.std.proofs.lemmas.Grind.{common_steps}
use Rattle.gmpl_input.proofs.Turns.{one_more, no_more}
use Rattle.gmpl_statements.specs.Actions.{action, actions, actions_from}
use Rattle.gmpl_statements.proofs.actions.+actions.Goals as goal

pub actions-returns-then-sees : goal.actions-returns-then-sees
unfolding actions_from
actions-returns-then-sees t c =
    let e = one_more (λ n. actions_from (action c.args.reader.depth) n c.loop-turn.found c.loop-turn.tokens) _ c.loop-turn._turn c.loop-turn-test.true c.loop-turn.invariant in
    first_of (search rules, grind (arith, common_steps))

pub actions-returns-in_err-action : goal.actions-returns-in_err-action
unfolding actions_from
actions-returns-in_err-action t c =
    let e = one_more (λ n. actions_from (action c.args.reader.depth) n c.loop-turn.found c.loop-turn.tokens) _ c.loop-turn._turn c.loop-turn-test.true c.loop-turn.invariant in
    first_of (search rules, grind (arith, common_steps))

pub actions-loop-turn-preserved : goal.actions-loop-turn-preserved
unfolding actions_from
actions-loop-turn-preserved t c =
    let e = one_more (λ n. actions_from (action c.args.reader.depth) n c.loop-turn.found c.loop-turn.tokens) _ c.loop-turn._turn c.loop-turn-test.true c.loop-turn.invariant in
    first_of (search rules, grind (arith, common_steps))

pub actions-returns : goal.actions-returns
unfolding actions_from
actions-returns t c =
    let e = no_more (λ n. actions_from (action c.args.reader.depth) n c.loop-turn.found c.loop-turn.tokens) _ c.loop-turn._turn c.loop-turn-test.false c.loop-turn.invariant in
    first_of (search rules, grind (arith, common_steps))
