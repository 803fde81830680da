use Rattle.std.proofs.Common.{[], take}
use Rattle.instance.specs.ByColumn.{AreByColumn}
use Rattle.instance.proofs.by_column.EntriesByColumn.without_rows.Given as goal

abbrev pub invariant-loop-column : goal.invariant-loop-column
invariant-loop-column l = AreByColumn l.made (take l._column-index l.columns) []
