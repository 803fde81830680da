-- One column more.
use Rattle.gmpl_names.specs.Statements.{input_column}
use Rattle.gmpl_names.proofs.Passes.{one_more}
use Rattle.gmpl_names.proofs.tables.input_columns.Goals as goal

pub loop-one-preserved : goal.loop-one-preserved
loop-one-preserved c =
    one_more (input_column c.args.objects.now) c.args.all.now c.loop-one.one-index c.one-item.result _ c.loop-one.made _ c.in_ok-input_column.field-0 c.args.scope.now _
    c.loop-one-test.true c.one-item.is c.in_ok-input_column.ensures c.in_ok-push.ensures.ok c.loop-one.invariant
