-- One statement more.
use Rattle.gmpl_names.specs.Statements.{action}
use Rattle.gmpl_names.proofs.Passes.{statement_more}
use Rattle.gmpl_names.proofs.actions.+actions.Goals as goal

pub actions-loop-one-preserved : goal.actions-loop-one-preserved
actions-loop-one-preserved t c =
    statement_more (action c.args.objects.now) c.args.all.now c.loop-one.one-index c.one-item.result _ c.loop-one.made _ c.in_ok-action.field-0 c.loop-one.scope _ c.loop-one.tables _
    c.loop-one-test.true c.one-item.is c.in_ok-action.ensures c.in_ok-push.ensures.ok c.loop-one.invariant
