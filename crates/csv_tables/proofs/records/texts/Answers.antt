-- The first bad field, or all of them.
use Rattle.std.proofs.Common.{rules}
use Rattle.csv.specs.Records.{fields_of}
use Rattle.csv_tables.proofs.Texts.{all-texts, bad-texts}
use Rattle.csv_tables.proofs.records.texts.Goals as goal

pub returns-in_err-text_at : goal.returns-in_err-text_at
returns-in_err-text_at c =
    bad-texts _ c.from_residual-in_err-text_at.result _ (fields_of c.args.fields.now) c.loop-place.place c.in_err-text_at.field-0.0
    c.from_residual-in_err-text_at.ensures.1 (search rules) c.in_err-text_at.ensures c.loop-place.invariant

pub returns : goal.returns
returns c = all-texts _ (fields_of c.args.fields.now) c.loop-place.place (search rules) c.loop-place.invariant
