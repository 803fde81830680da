use Rattle.std.proofs.Common.{take}
use Rattle.row_columns.specs.Extending.{AreWithin, row_names}
use Rattle.row_columns.proofs.names.longest_row.Given as goal

abbrev pub invariant-loop-row : goal.invariant-loop-row
invariant-loop-row l = AreWithin l.longest (row_names (take l.row-index l.rows))
