-- The rows so far, and then those of the records that are left, of which each turn takes one.
use Rattle.std.proofs.Common.{◌≡◌, [], Some, length}
use Rattle.csv_tables.specs.Reading.{with_records}
use Rattle.csv_tables.specs.Records.{IsReading, rows_left}
use Rattle.csv_tables.proofs.rows.read_rows.Given as goal

abbrev pub invariant-loop-table : goal.invariant-loop-table
invariant-loop-table l = IsReading (λ s. Some s.now) l.reader
    × (with_records l.columns [] (rows_left (λ s. Some s.now) l.fn.reader) ≡ with_records l.columns l.table (rows_left (λ s. Some s.now) l.reader))

abbrev pub decreases-loop-table : goal.decreases-loop-table
decreases-loop-table l = length (rows_left (λ s. Some s.now) l.reader)
