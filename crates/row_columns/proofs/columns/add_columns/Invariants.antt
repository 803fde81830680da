use Rattle.std.proofs.Common.{drop}
use Rattle.row_columns.proofs.Adding.{IsOnWay}
use Rattle.row_columns.proofs.columns.add_columns.Given as goal

abbrev pub invariant-loop-column : goal.invariant-loop-column
invariant-loop-column l = IsOnWay l.initial.builder l.builder l.columns (drop l.column-index l.columns)
