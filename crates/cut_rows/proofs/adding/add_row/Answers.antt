use Rattle.std.proofs.Common.{◌∙◌, sym}
use Rattle.cut_rows.proofs.CutRows.{row_passes}
use Rattle.cut_rows.proofs.adding.add_row.Goals as goal

pub returns-in-Err-clause-too_many : goal.returns-in-Err-clause-too_many
returns-in-Err-clause-too_many c = λ e. row_passes c.args.builder.now.rows c.args.row (c.in-Err.ensures.too_many (sym c.fault_of.ensures ∙ e))
