use Rattle.std.proofs.Common.{drop}
use Rattle.row_columns.specs.Extending.{tying_rows}
use Rattle.row_columns.proofs.Adding.{AreOnWay}
use Rattle.row_columns.proofs.rows.add_tying_rows.Given as goal

abbrev pub invariant-loop-place : goal.invariant-loop-place
invariant-loop-place l = AreOnWay l.initial.builder l.builder (tying_rows l.prefix l.count 0 l.forms) (tying_rows l.prefix l.count l.place (drop l.place l.forms))
