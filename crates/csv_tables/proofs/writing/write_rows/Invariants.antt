-- What is written, and then the records of the rest.
use Rattle.std.proofs.Common.{◌≡◌, ◌++◌, Some, drop}
use Rattle.csv_tables.specs.Writing.{IsWriting, records_of, written}
use Rattle.csv_tables.proofs.writing.write_rows.Given as goal

abbrev pub invariant-loop-row : goal.invariant-loop-row
invariant-loop-row l = IsWriting (λ v. Some v.items) l.writer
    × (written (λ v. Some v.items) l.fn.writer ++ records_of l.rows ≡ written (λ v. Some v.items) l.writer ++ records_of (drop l.row-index l.rows))
