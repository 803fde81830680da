use Rattle.std.proofs.Common.{◌≡◌, drop}
use Rattle.instance.specs.Sums.{rows_answer}
use Rattle.instance.proofs.points.meets_rows.Given as goal

abbrev pub invariant-loop-row : goal.invariant-loop-row
invariant-loop-row l = rows_answer l.x (drop l.row-index l.rows) ≡ rows_answer l.x l.rows
