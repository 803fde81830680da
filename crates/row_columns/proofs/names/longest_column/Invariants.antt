use Rattle.std.proofs.Common.{take}
use Rattle.row_columns.specs.Extending.{AreWithin, column_names}
use Rattle.row_columns.proofs.names.longest_column.Given as goal

abbrev pub invariant-loop-column : goal.invariant-loop-column
invariant-loop-column l = AreWithin l.longest (column_names (take l.column-index l.columns))
