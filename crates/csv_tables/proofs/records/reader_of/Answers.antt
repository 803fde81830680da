-- A reader before the first record of the text.
use Rattle.std.proofs.Common.{refl, inr}
use Rattle.csv.specs.Reading.{strip_bom}
use Rattle.csv_tables.proofs.RecordsLeft.{left-all}
use Rattle.csv_tables.specs.Records.{IsReading, rows_left}
use Rattle.csv_tables.proofs.records.reader_of.Goals as goal

pub returns-clause-reading : goal.returns-clause-reading
unfolding IsReading
returns-clause-reading c =
    let fr = c.from_reader.ensures in
    let flexible = c.flexible.ensures in
    let headers = c.has_headers.ensures in
    rw (fr.trim, fr.config, fr.state, fr.source, fr.has_headers, fr.headers, flexible, headers) (c.new.ensures.trim, inr (inr (refl, refl)), c.new.ensures.config, refl, refl)

pub returns-clause-rows : goal.returns-clause-rows
unfolding rows_left
returns-clause-rows c =
    let fr = c.from_reader.ensures in
    rw (fr.state, fr.source) (left-all (strip_bom c.args.text.now))
