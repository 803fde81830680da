-- One more turn of a list, and no more.
use Rattle.std.proofs.Common.{rules, arith}
use Rattle.std.proofs.lemmas.Grind.{common_steps}
use Rattle.gmpl_input.specs.Rules.{further_from}
use Rattle.gmpl_input.proofs.Turns.{one_more, no_more}
use Rattle.gmpl_words.specs.Operators.{operator}
use Rattle.gmpl_expressions.specs.Grammar.{inside, union, part, entry, links_from}
use Rattle.gmpl_expressions.proofs.reader.Reader.+grammar.Goals as goal

pub links-returns-in-None : goal.links-returns-in-None
unfolding links_from
links-returns-in-None t c =
    let e = one_more (λ n. links_from (operator c.args.level) (part (inside c.args.self.depth) c.args.level) n c.loop-turn.found c.loop-turn.tokens) _ c.loop-turn._turn c.loop-turn-test.true c.loop-turn.invariant in
    first_of (search rules, grind (arith, common_steps))

pub links-returns-in_err-operand-in-Some : goal.links-returns-in_err-operand-in-Some
unfolding links_from
links-returns-in_err-operand-in-Some t c =
    let e = one_more (λ n. links_from (operator c.args.level) (part (inside c.args.self.depth) c.args.level) n c.loop-turn.found c.loop-turn.tokens) _ c.loop-turn._turn c.loop-turn-test.true c.loop-turn.invariant in
    first_of (search rules, grind (arith, common_steps))

pub links-loop-turn-preserved : goal.links-loop-turn-preserved
unfolding links_from
links-loop-turn-preserved t c =
    let e = one_more (λ n. links_from (operator c.args.level) (part (inside c.args.self.depth) c.args.level) n c.loop-turn.found c.loop-turn.tokens) _ c.loop-turn._turn c.loop-turn-test.true c.loop-turn.invariant in
    first_of (search rules, grind (arith, common_steps))

pub links-returns : goal.links-returns
unfolding links_from
links-returns t c =
    let e = no_more (λ n. links_from (operator c.args.level) (part (inside c.args.self.depth) c.args.level) n c.loop-turn.found c.loop-turn.tokens) _ c.loop-turn._turn c.loop-turn-test.false c.loop-turn.invariant in
    first_of (search rules, grind (arith, common_steps))

pub entries-returns-then-not-eat : goal.entries-returns-then-not-eat
unfolding further_from
entries-returns-then-not-eat t c =
    let e = one_more (λ n. further_from (entry (inside c.args.self.depth)) n c.loop-turn.found c.loop-turn.tokens) _ c.loop-turn._turn c.loop-turn-test.true c.loop-turn.invariant in
    first_of (search rules, grind (arith, common_steps))

pub entries-returns-in_err-entry : goal.entries-returns-in_err-entry
unfolding further_from
entries-returns-in_err-entry t c =
    let e = one_more (λ n. further_from (entry (inside c.args.self.depth)) n c.loop-turn.found c.loop-turn.tokens) _ c.loop-turn._turn c.loop-turn-test.true c.loop-turn.invariant in
    first_of (search rules, grind (arith, common_steps))

pub entries-loop-turn-preserved : goal.entries-loop-turn-preserved
unfolding further_from
entries-loop-turn-preserved t c =
    let e = one_more (λ n. further_from (entry (inside c.args.self.depth)) n c.loop-turn.found c.loop-turn.tokens) _ c.loop-turn._turn c.loop-turn-test.true c.loop-turn.invariant in
    first_of (search rules, grind (arith, common_steps))

pub entries-returns : goal.entries-returns
unfolding further_from
entries-returns t c =
    let e = no_more (λ n. further_from (entry (inside c.args.self.depth)) n c.loop-turn.found c.loop-turn.tokens) _ c.loop-turn._turn c.loop-turn-test.false c.loop-turn.invariant in
    first_of (search rules, grind (arith, common_steps))

pub further-returns-then-not-eat : goal.further-returns-then-not-eat
unfolding further_from part
further-returns-then-not-eat t c =
    let e = one_more (λ n. further_from (union (inside c.args.self.depth)) n c.loop-turn.found c.loop-turn.tokens) _ c.loop-turn._turn c.loop-turn-test.true c.loop-turn.invariant in
    first_of (search rules, grind (arith, common_steps))

pub further-returns-in_err-chain : goal.further-returns-in_err-chain
unfolding further_from part
further-returns-in_err-chain t c =
    let e = one_more (λ n. further_from (union (inside c.args.self.depth)) n c.loop-turn.found c.loop-turn.tokens) _ c.loop-turn._turn c.loop-turn-test.true c.loop-turn.invariant in
    first_of (search rules, grind (arith, common_steps))

pub further-loop-turn-preserved : goal.further-loop-turn-preserved
unfolding further_from part
further-loop-turn-preserved t c =
    let e = one_more (λ n. further_from (union (inside c.args.self.depth)) n c.loop-turn.found c.loop-turn.tokens) _ c.loop-turn._turn c.loop-turn-test.true c.loop-turn.invariant in
    first_of (search rules, grind (arith, common_steps))

pub further-returns : goal.further-returns
unfolding further_from part
further-returns t c =
    let e = no_more (λ n. further_from (union (inside c.args.self.depth)) n c.loop-turn.found c.loop-turn.tokens) _ c.loop-turn._turn c.loop-turn-test.false c.loop-turn.invariant in
    first_of (search rules, grind (arith, common_steps))
