-- One head more.
use Rattle.gmpl_names.specs.Expressions.{indexing}
use Rattle.gmpl_names.proofs.Passes.{one_more}
use Rattle.gmpl_names.proofs.actions.indexings.Goals as goal

pub loop-one-preserved : goal.loop-one-preserved
loop-one-preserved c =
    one_more (indexing c.args.objects.now) c.args.all.now c.loop-one.one-index c.one-item.result _ c.loop-one.made _ c.in_ok-resolve_indexing.field-0 c.loop-one.scope _
    c.loop-one-test.true c.one-item.is c.in_ok-resolve_indexing.ensures c.in_ok-push.ensures.ok c.loop-one.invariant
