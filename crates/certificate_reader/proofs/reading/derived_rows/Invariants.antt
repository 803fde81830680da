use Rattle.std.proofs.Common.{◌≡◌, ◌-◌, length}
use Rattle.certificate_reader.specs.Reading.{derived_rows_at}
use Rattle.certificate_lines.proofs.Fronts.{with_front_of}
use Rattle.certificate_reader.proofs.reading.derived_rows.Given as goal

abbrev pub invariant-loop : goal.invariant-loop
invariant-loop l = record { read : with_front_of l.rows (derived_rows_at (l.count - l.counter) l.lines) ≡ derived_rows_at l.count l.initial.lines; count : length l.rows ≡ l.counter }
