-- One more turn of a list, and no more.
use Rattle.std.proofs.Common.{rules, arith}
use Rattle.std.proofs.lemmas.Grind.{common_steps}
use Rattle.gmpl_input.proofs.Turns.{one_more, no_more}
use Rattle.gmpl_statements.specs.Attributes.{attributes, attributes_from}
use Rattle.gmpl_statements.proofs.attributes.attributes.Goals as goal

pub returns-then-has_comma : goal.returns-then-has_comma
unfolding attributes_from
returns-then-has_comma c =
    let e = one_more (λ n. attributes_from c.args.reader.depth c.args.declared n c.loop-turn.words c.loop-turn.found c.loop-turn.tokens) _ c.loop-turn._turn c.loop-turn-test.true c.loop-turn.invariant in
    first_of (search rules, grind (arith, common_steps))

pub returns-in-None : goal.returns-in-None
unfolding attributes_from
returns-in-None c =
    let e = one_more (λ n. attributes_from c.args.reader.depth c.args.declared n c.loop-turn.words c.loop-turn.found c.loop-turn.tokens) _ c.loop-turn._turn c.loop-turn-test.true c.loop-turn.invariant in
    first_of (search rules, grind (arith, common_steps))

pub returns-then-not-fits : goal.returns-then-not-fits
unfolding attributes_from
returns-then-not-fits c =
    let e = one_more (λ n. attributes_from c.args.reader.depth c.args.declared n c.loop-turn.words c.loop-turn.found c.loop-turn.tokens) _ c.loop-turn._turn c.loop-turn-test.true c.loop-turn.invariant in
    first_of (search rules, grind (arith, common_steps))

pub returns-in_err-attribute-in-Some : goal.returns-in_err-attribute-in-Some
unfolding attributes_from
returns-in_err-attribute-in-Some c =
    let e = one_more (λ n. attributes_from c.args.reader.depth c.args.declared n c.loop-turn.words c.loop-turn.found c.loop-turn.tokens) _ c.loop-turn._turn c.loop-turn-test.true c.loop-turn.invariant in
    first_of (search rules, grind (arith, common_steps))

pub loop-turn-preserved : goal.loop-turn-preserved
unfolding attributes_from
loop-turn-preserved c =
    let e = one_more (λ n. attributes_from c.args.reader.depth c.args.declared n c.loop-turn.words c.loop-turn.found c.loop-turn.tokens) _ c.loop-turn._turn c.loop-turn-test.true c.loop-turn.invariant in
    first_of (search rules, grind (arith, common_steps))

pub returns : goal.returns
unfolding attributes_from
returns c =
    let e = no_more (λ n. attributes_from c.args.reader.depth c.args.declared n c.loop-turn.words c.loop-turn.found c.loop-turn.tokens) _ c.loop-turn._turn c.loop-turn-test.false c.loop-turn.invariant in
    first_of (search rules, grind (arith, common_steps))
