use Rattle.std.proofs.Common.{take}
use Rattle.instance.specs.ByColumn.{AreByColumn}
use Rattle.instance.proofs.by_column.EntriesByColumn.of.Given as goal

abbrev pub invariant-loop-place : goal.invariant-loop-place
invariant-loop-place l = AreByColumn l.made l.problem.columns (take l.place l.problem.rows)
