use Rattle.certificate.specs.Written.{count_max}
use Rattle.row_columns.proofs.RowLemmas.{no_rows, one_more_row, all_rows, row_entries}
use Rattle.row_columns.proofs.row_forms.row_forms.Goals as goal

pub loop-row-init : goal.loop-row-init
loop-row-init c = no_rows c.args.problem.now c.args.rows.now c.new-forms.result c.new-forms.ensures

pub add_form-requires : goal.add_form-requires
add_form-requires c = row_entries count_max c.args.rows.now c.loop-row.row-index c.row-item.result c.loop-row-test.true c.row-item.is c.requires

pub loop-row-preserved : goal.loop-row-preserved
loop-row-preserved c = one_more_row c.args.problem.now c.args.rows.now c.loop-row.row-index c.row-item.result c.loop-row.forms c.add_form.new.forms c.loop-row-test.true c.row-item.is c.in_ok-add_form.ensures c.loop-row.invariant

pub returns : goal.returns
returns c = all_rows c.args.problem.now c.args.rows.now c.loop-row.row-index c.loop-row.forms c.loop-row-test.false c.loop-row.invariant
