-- One more record.
use Rattle.std.proofs.Common.{◌∙◌, Some, Vec, Global, ℕ, sym}
use Rattle.csv.specs.Records.{fields_of}
use Rattle.csv_tables.proofs.Results.{after_ok}
use Rattle.csv_tables.proofs.WrittenText.{one-more-record, ready-to-write, writes-on}
use Rattle.csv_tables.proofs.writing.write.Goals as goal

pub returns-in-Some-clause-writing : goal.returns-in-Some-clause-writing
returns-in-Some-clause-writing c =
    let contents = λ (v : Vec ℕ Global). Some v.items in
    let w = c.write_byte_record.ensures in
    let ok = sym c.ok.ensures.value ∙ c.in-Some.is in
    let (fields, wrote, plain) = ready-to-write contents c.args.writer.now c.requires in
    let bytes = after_ok c.write_byte_record.result c.in-Some.field-0 ok w.bytes fields wrote plain in
    writes-on contents c.args.writer.now c.write_byte_record.new.self (fields_of c.args.fields.now) c.requires bytes
    (after_ok c.write_byte_record.result c.in-Some.field-0 ok w.ended) (after_ok c.write_byte_record.result c.in-Some.field-0 ok w.clean) (after_ok c.write_byte_record.result c.in-Some.field-0 ok w.setup)

pub returns-in-Some-clause-text : goal.returns-in-Some-clause-text
returns-in-Some-clause-text c =
    let contents = λ (v : Vec ℕ Global). Some v.items in
    let ok = sym c.ok.ensures.value ∙ c.in-Some.is in
    let (fields, wrote, plain) = ready-to-write contents c.args.writer.now c.requires in
    let bytes = after_ok c.write_byte_record.result c.in-Some.field-0 ok c.write_byte_record.ensures.bytes fields wrote plain in
    one-more-record contents c.args.writer.now c.write_byte_record.new.self (fields_of c.args.fields.now) c.requires bytes
