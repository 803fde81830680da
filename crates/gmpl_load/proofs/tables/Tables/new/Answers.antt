-- One more object, and no more.
use Rattle.std.proofs.Common.{◌++◌, rules, arith}
use Rattle.std.proofs.lemmas.Grind.{common_steps}
use Rattle.gmpl_blocks.proofs.Turns.{one_more, no_more}
use Rattle.gmpl_load.specs.Tables.{nothing_for}
use Rattle.gmpl_load.proofs.tables.Tables.new.Goals as goal

pub loop-object-preserved : goal.loop-object-preserved
loop-object-preserved c =
    let e = one_more (λ n. c.loop-object.objects.items ++ nothing_for n) _ c.loop-object._object c.loop-object-test.true c.loop-object.invariant in
    first_of (search rules, grind (arith, common_steps))

pub returns : goal.returns
returns c =
    let e = no_more (λ n. c.loop-object.objects.items ++ nothing_for n) _ c.loop-object._object c.loop-object-test.false c.loop-object.invariant in
    first_of (search rules, grind (arith, common_steps))
