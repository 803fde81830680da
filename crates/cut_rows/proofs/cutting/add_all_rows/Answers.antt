use Rattle.cut_rows.proofs.CutRows.{err_from, own_rows_pass}
use Rattle.cut_rows.proofs.cutting.add_all_rows.Goals as goal

pub returns-in_err-add_rows-clause-too_many : goal.returns-in_err-add_rows-clause-too_many
returns-in_err-add_rows-clause-too_many c =
    err_from c.from_residual.result c.in_err-add_rows.field-0.0 _ c.from_residual.ensures.1
    (λ e. own_rows_pass c.args.problem.now c.args.builder.now c.rows.result.now c.args.more.now c.requires.old c.rows.ensures (c.in_err-add_rows.ensures.too_many e))
