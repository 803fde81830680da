use Rattle.cut_rows.proofs.CutRows.{all_rows_pass, err_from}
use Rattle.cut_rows.proofs.adding.add_rows.Goals as goal

pub returns-in_err-add_copy-clause-too_many : goal.returns-in_err-add_copy-clause-too_many
returns-in_err-add_copy-clause-too_many c =
    err_from c.from_residual.result c.in_err-add_copy.field-0.0 _ c.from_residual.ensures.1
    (λ e. all_rows_pass c.args.builder.now c.loop-row.builder c.args.rows.now c.loop-row.row-index c.row-item.result c.loop-row-test.true c.row-item.is c.loop-row.invariant (c.in_err-add_copy.ensures.too_many e))
