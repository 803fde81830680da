-- The rows gone over fit, if those that are left do.
use Rattle.std.proofs.Common.{drop}
use Rattle.gmpl_generate.specs.Solved.{RowsFit}
use Rattle.model_rows.proofs.behind.all_fit.Given as goal

abbrev pub invariant-loop-row : goal.invariant-loop-row
invariant-loop-row l = RowsFit l.point (drop l.row l.problem.rows) → RowsFit l.point l.problem.rows
