-- The rows that were taken off, and then the rest, from its end on.
use Rattle.std.proofs.Common.{◌≡◌, length, reverse}
use Rattle.gmpl_table_data.specs.TableData.{rows_given}
use Rattle.gmpl_table_data.proofs.columns.rows_given.Given as goal

abbrev pub invariant-loop-row : goal.invariant-loop-row
invariant-loop-row l = rows_given l.columns l.fn.table l.fn.objects ≡ rows_given l.columns (reverse l.left) l.objects

abbrev pub decreases-loop-row : goal.decreases-loop-row
decreases-loop-row l = length l.left
