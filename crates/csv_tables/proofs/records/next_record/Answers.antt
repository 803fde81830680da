-- What was read, and what is left after it.
use Rattle.std.proofs.Common.{Bor, List, ℕ, Some, ◌∙◌, sym}
use Rattle.csv.specs.Records.{fields_of}
use Rattle.csv_tables.proofs.RecordsLeft.{ready-to-read, reading-on, rows-read}
use Rattle.csv_tables.proofs.Results.{from_ok, after_ok}
use Rattle.csv_tables.proofs.records.next_record.Goals as goal

pub returns-in-Some-clause-rows : goal.returns-in-Some-clause-rows
returns-in-Some-clause-rows c =
    let rest = λ (s : Bor (List ℕ)). Some s.now in
    let ready = ready-to-read rest c.args.reader.now c.requires in
    let read = from_ok _ c.read_byte_record.result c.in-Some.found (sym c.ok.ensures.value ∙ c.in-Some.is) c.read_byte_record.ensures.reads in
    rows-read rest c.args.reader.now c.read_byte_record.new.self c.in-Some.found (fields_of c.read_byte_record.new.row) c.requires (read ready.0 ready.1)

pub returns-in-Some-clause-reading : goal.returns-in-Some-clause-reading
returns-in-Some-clause-reading c =
    let rest = λ (s : Bor (List ℕ)). Some s.now in
    let ready = ready-to-read rest c.args.reader.now c.requires in
    let read = from_ok _ c.read_byte_record.result c.in-Some.found (sym c.ok.ensures.value ∙ c.in-Some.is) c.read_byte_record.ensures.reads in
    let first = after_ok c.read_byte_record.result c.in-Some.found (sym c.ok.ensures.value ∙ c.in-Some.is) (c.read_byte_record.ensures.ready ready.0) in
    reading-on rest c.args.reader.now c.read_byte_record.new.self c.in-Some.found (fields_of c.read_byte_record.new.row) c.requires (read ready.0 ready.1) first
