-- One attribute more.
use Rattle.gmpl_names.specs.Statements.{attribute}
use Rattle.gmpl_names.proofs.Passes.{one_more}
use Rattle.gmpl_names.proofs.parts.attributes.Goals as goal

pub loop-one-preserved : goal.loop-one-preserved
loop-one-preserved c =
    one_more (attribute c.args.objects.now) c.args.all.now c.loop-one.one-index c.one-item.result _ c.loop-one.made _ c.in_ok-attribute.field-0 c.loop-one.scope _
    c.loop-one-test.true c.one-item.is c.in_ok-attribute.ensures c.in_ok-push.ensures.ok c.loop-one.invariant
