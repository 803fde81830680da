use Rattle.exact_ranges.proofs.Naming.{row_is_new, row_is_form, row_is_next}
use Rattle.exact_ranges.proofs.parts.add_rows.Goals as goal

pub add_row-requires-clause-name : goal.add_row-requires-clause-name
add_row-requires-clause-name c = row_is_new c.args.builder.now c.loop-row.builder c.args.rows.now c.loop-row.row-index c.loop-row.place c.row-item.result c.in_ok-made.made c.loop-row-test.true c.row-item.is c.loop-row.invariant.0 c.loop-row.invariant.1 c.in_ok-made.ensures c.names_by_place.ensures.rows c.requires.few

pub add_row-requires-clause-entries : goal.add_row-requires-clause-entries
add_row-requires-clause-entries c = row_is_form c.args.builder.now c.loop-row.builder c.args.rows.now c.loop-row.row-index c.loop-row.place c.row-item.result c.in_ok-made.made c.loop-row-test.true c.row-item.is c.loop-row.invariant.0 c.loop-row.invariant.1 c.in_ok-made.ensures c.requires.forms

pub loop-row-preserved : goal.loop-row-preserved
loop-row-preserved c = row_is_next c.args.builder.now c.loop-row.builder c.args.rows.now c.loop-row.row-index c.loop-row.place c.row-item.result c.in_ok-made.made c.loop-row-test.true c.row-item.is c.loop-row.invariant.0 c.loop-row.invariant.1 c.in_ok-made.ensures c.add_row.new.builder c.in_ok-add_row.ensures
