use Rattle.std.proofs.Common.{◌≡◌, ◌++◌, drop, string_bytes}
use Rattle.certificate.specs.Text.{derived_rows_text}
use Rattle.certificate.proofs.writing.derived_rows_text.Given as goal

abbrev pub invariant-loop-row : goal.invariant-loop-row
invariant-loop-row l = derived_rows_text l.rows ≡ string_bytes l.text ++ derived_rows_text (drop l.row-index l.rows)
