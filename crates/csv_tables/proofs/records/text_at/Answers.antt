-- The field is the one that the record has there.
use Rattle.std.proofs.Common.{sym}
use Rattle.csv.specs.Records.{fields_of}
use Rattle.csv_tables.proofs.Texts.{field-there, field-gone}
use Rattle.csv_tables.proofs.records.text_at.Goals as goal

pub returns-in-Some : goal.returns-in-Some
returns-in-Some c = rw (field-there (fields_of c.args.fields.now) c.args.place c.in-Some.field.now (sym c.in-Some.ensures.value)) c.text.ensures

pub returns-in-None : goal.returns-in-None
returns-in-None c = rw (field-gone (fields_of c.args.fields.now) c.args.place (sym c.in-None.ensures.value)) c.text-in-None.ensures
