-- One more turn, and no more.
use Rattle.std.proofs.Common.{rules, arith}
use Rattle.std.proofs.lemmas.Grind.{common_steps}
use Rattle.gmpl_blocks.proofs.Turns.{one_more, no_more}
use Rattle.gmpl_load.specs.Texts.{blocks_from}
use Rattle.gmpl_load.proofs.texts.blocks.Goals as goal

pub returns-in_err-loaded : goal.returns-in_err-loaded
unfolding blocks_from
returns-in_err-loaded c =
    let e = one_more (λ n. blocks_from c.args.names.now c.args.objects.now c.args.fault n c.loop-turn.loaded c.loop-turn.tokens) _ c.loop-turn._turn c.loop-turn-test.true c.loop-turn.invariant in
    first_of (search rules, grind (arith, common_steps))

pub loop-turn-preserved : goal.loop-turn-preserved
unfolding blocks_from
loop-turn-preserved c =
    let e = one_more (λ n. blocks_from c.args.names.now c.args.objects.now c.args.fault n c.loop-turn.loaded c.loop-turn.tokens) _ c.loop-turn._turn c.loop-turn-test.true c.loop-turn.invariant in
    first_of (search rules, grind (arith, common_steps))

pub returns : goal.returns
unfolding blocks_from
returns c =
    let e = no_more (λ n. blocks_from c.args.names.now c.args.objects.now c.args.fault n c.loop-turn.loaded c.loop-turn.tokens) _ c.loop-turn._turn c.loop-turn-test.false c.loop-turn.invariant in
    first_of (search rules, grind (arith, common_steps))

pub returns-then-left-eq0 : goal.returns-then-left-eq0
unfolding blocks_from
returns-then-left-eq0 c =
    let e = one_more (λ n. blocks_from c.args.names.now c.args.objects.now c.args.fault n c.loop-turn.loaded c.loop-turn.tokens) _ c.loop-turn._turn c.loop-turn-test.true c.loop-turn.invariant in
    first_of (search rules, grind (arith, common_steps))

pub returns-then-is_word : goal.returns-then-is_word
unfolding blocks_from
returns-then-is_word c =
    let e = one_more (λ n. blocks_from c.args.names.now c.args.objects.now c.args.fault n c.loop-turn.loaded c.loop-turn.tokens) _ c.loop-turn._turn c.loop-turn-test.true c.loop-turn.invariant in
    first_of (search rules, grind (arith, common_steps))
