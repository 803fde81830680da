-- The columns so far, and then the rest.
use Rattle.std.proofs.Common.{◌≡◌, drop}
use Rattle.gmpl_table_data.specs.TableData.{row_given}
use Rattle.gmpl_table_data.proofs.columns.row_given.Given as goal

abbrev pub invariant-loop-place : goal.invariant-loop-place
invariant-loop-place l = row_given 0 l.columns l.row l.fn.objects ≡ row_given l.place (drop l.place l.columns) l.row l.objects
