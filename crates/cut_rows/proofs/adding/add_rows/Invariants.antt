use Rattle.std.proofs.Common.{drop}
use Rattle.row_columns.proofs.Adding.{AreOnWay}
use Rattle.cut_rows.proofs.adding.add_rows.Given as goal

abbrev pub invariant-loop-row : goal.invariant-loop-row
invariant-loop-row l = AreOnWay l.initial.builder l.builder l.rows (drop l.row-index l.rows)
