use Rattle.std.proofs.Common.{◌≡◌, drop}
use Rattle.cert_check.specs.Parts.{ray_rows_answer}
use Rattle.cert_check.proofs.points.ray_rows.Given as goal

abbrev pub invariant-loop-row : goal.invariant-loop-row
invariant-loop-row l = ray_rows_answer l.x (drop l.row-index l.rows) ≡ ray_rows_answer l.x l.rows
