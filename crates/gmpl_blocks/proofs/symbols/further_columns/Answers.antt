-- One more turn of a list, and no more.
use Rattle.std.proofs.Common.{rules, arith}
use Rattle.std.proofs.lemmas.Grind.{common_steps}
use Rattle.gmpl_blocks.proofs.Turns.{one_more, no_more}
use Rattle.gmpl_blocks.specs.Symbols.{columns_from}
use Rattle.gmpl_blocks.proofs.symbols.further_columns.Goals as goal

pub returns-then-eat : goal.returns-then-eat
unfolding columns_from
returns-then-eat c =
    let e = one_more (λ n. columns_from n c.loop-turn.found c.loop-turn.tokens) _ c.loop-turn._turn c.loop-turn-test.true c.loop-turn.invariant in
    first_of (search rules, grind (arith, common_steps))

pub returns-in_err-next_symbol : goal.returns-in_err-next_symbol
unfolding columns_from
returns-in_err-next_symbol c =
    let e = one_more (λ n. columns_from n c.loop-turn.found c.loop-turn.tokens) _ c.loop-turn._turn c.loop-turn-test.true c.loop-turn.invariant in
    first_of (search rules, grind (arith, common_steps))

pub loop-turn-preserved : goal.loop-turn-preserved
unfolding columns_from
loop-turn-preserved c =
    let e = one_more (λ n. columns_from n c.loop-turn.found c.loop-turn.tokens) _ c.loop-turn._turn c.loop-turn-test.true c.loop-turn.invariant in
    first_of (search rules, grind (arith, common_steps))

pub returns : goal.returns
unfolding columns_from
returns c =
    let e = no_more (λ n. columns_from n c.loop-turn.found c.loop-turn.tokens) _ c.loop-turn._turn c.loop-turn-test.false c.loop-turn.invariant in
    first_of (search rules, grind (arith, common_steps))
