use Rattle.std.proofs.Common.{drop, map}
use Rattle.row_columns.specs.Extended.{moved_row}
use Rattle.row_columns.proofs.Adding.{AreOnWay}
use Rattle.row_columns.proofs.rows.add_moved_rows.Given as goal

abbrev pub invariant-loop-row : goal.invariant-loop-row
invariant-loop-row l = AreOnWay l.initial.builder l.builder (map (moved_row l.count) l.rows) (map (moved_row l.count) (drop l.row-index l.rows))
