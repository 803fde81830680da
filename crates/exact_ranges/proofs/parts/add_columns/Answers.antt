use Rattle.exact_ranges.proofs.Naming.{column_is_new, column_is_next}
use Rattle.exact_ranges.proofs.parts.add_columns.Goals as goal

pub add_column-requires : goal.add_column-requires
add_column-requires c = column_is_new c.args.builder.now c.loop-column.builder c.args.columns.now c.loop-column.column-index c.loop-column.place c.column-item.result c.in_ok-made.made c.loop-column-test.true c.column-item.is c.loop-column.invariant.0 c.loop-column.invariant.1 c.in_ok-made.ensures c.names_by_place.ensures.columns c.requires.few

pub loop-column-preserved : goal.loop-column-preserved
loop-column-preserved c = column_is_next c.args.builder.now c.loop-column.builder c.args.columns.now c.loop-column.column-index c.loop-column.place c.column-item.result c.in_ok-made.made c.loop-column-test.true c.column-item.is c.loop-column.invariant.0 c.loop-column.invariant.1 c.in_ok-made.ensures c.add_column.new.builder c.in_ok-add_column.ensures
