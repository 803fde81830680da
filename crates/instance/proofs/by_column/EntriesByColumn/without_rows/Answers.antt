use Rattle.instance.proofs.ByColumn.{column_added}
use Rattle.instance.proofs.by_column.EntriesByColumn.without_rows.Goals as goal

pub loop-column-preserved : goal.loop-column-preserved
loop-column-preserved c = column_added c.loop-column._column-index c.args.columns.now c.loop-column.made c.add_column.new.self c.loop-column-test.true c.loop-column.invariant c.in_ok-add_column.ensures
