-- A field is a text where it is UTF-8.
use Rattle.std.proofs.Common.{sym, ap, ◌∙◌, Ok}
use Rattle.csv_tables.proofs.Texts.{text-good, text-bad}
use Rattle.csv_tables.proofs.records.text.Goals as goal

pub returns-in-Ok : goal.returns-in-Ok
returns-in-Ok c = text-good c.args.field.now c.in-Ok.ensures.cases.1 ∙ ap Ok (sym c.in-Ok.ensures.cases.0)

pub returns-in-Err : goal.returns-in-Err
returns-in-Err c = text-bad c.args.field.now c.in-Err.ensures.cases.0
