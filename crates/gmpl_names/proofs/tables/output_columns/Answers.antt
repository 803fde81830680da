-- One column more.
use Rattle.gmpl_names.specs.Statements.{output_column}
use Rattle.gmpl_names.proofs.Passes.{one_more}
use Rattle.gmpl_names.proofs.tables.output_columns.Goals as goal

pub loop-one-preserved : goal.loop-one-preserved
loop-one-preserved c =
    one_more (output_column c.args.objects.now) c.args.all.now c.loop-one.one-index c.one-item.result _ c.loop-one.made _ c.in_ok-output_column.field-0 c.loop-one.scope _
    c.loop-one-test.true c.one-item.is c.in_ok-output_column.ensures c.in_ok-push.ensures.ok c.loop-one.invariant
