-- What is left to lay down.
use Rattle.std.proofs.Common.{◌≡◌, drop}
use Rattle.gmpl_rows.specs.Laying.{lay_all}
use Rattle.gmpl_rows.proofs.row_entries.lay_all.Given as goal

abbrev pub invariant-loop-column : goal.invariant-loop-column
invariant-loop-column l = lay_all l.column (drop l.column l.laid) l.rows.items ≡ lay_all 0 l.laid l.initial.rows.items
