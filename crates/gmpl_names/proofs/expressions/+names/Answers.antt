-- One part more.
use Rattle.gmpl_names.specs.Expressions.{component, entry, expr}
use Rattle.gmpl_names.proofs.Passes.{component_more, one_more}
use Rattle.gmpl_names.proofs.expressions.+names.Goals as goal

pub resolve_exprs-loop-one-preserved : goal.resolve_exprs-loop-one-preserved
resolve_exprs-loop-one-preserved t c =
    one_more (expr c.args.objects.now) c.args.all.now c.loop-one.one-index c.one-item.result _ c.loop-one.made _ c.in_ok-resolve_expr.field-0 c.loop-one.scope _
    c.loop-one-test.true c.one-item.is c.in_ok-resolve_expr.ensures c.in_ok-push.ensures.ok c.loop-one.invariant

pub resolve_entries-loop-one-preserved : goal.resolve_entries-loop-one-preserved
resolve_entries-loop-one-preserved t c =
    one_more (entry c.args.objects.now) c.args.all.now c.loop-one.one-index c.one-item.result _ c.loop-one.made _ c.in_ok-resolve_entry.field-0 c.loop-one.scope _
    c.loop-one-test.true c.one-item.is c.in_ok-resolve_entry.ensures c.in_ok-push.ensures.ok c.loop-one.invariant

pub resolve_components-loop-one-preserved : goal.resolve_components-loop-one-preserved
resolve_components-loop-one-preserved t c =
    component_more (component c.args.objects.now) c.args.all.now c.loop-one.one-index c.one-item.result _ c.loop-one.made _ c.in_ok-resolve_component.field-0 c.loop-one.found _ c.loop-one.scope _
    c.loop-one-test.true c.one-item.is c.in_ok-resolve_component.ensures c.in_ok-push.ensures.ok c.loop-one.invariant
