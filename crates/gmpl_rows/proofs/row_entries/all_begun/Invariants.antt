-- The rows so far.
use Rattle.std.proofs.Common.{◌≡◌}
use Rattle.gmpl_rows.specs.Laying.{all_begun}
use Rattle.gmpl_rows.proofs.row_entries.all_begun.Given as goal

abbrev pub invariant-loop-row : goal.invariant-loop-row
invariant-loop-row l = l.rows.items ≡ all_begun l._row
