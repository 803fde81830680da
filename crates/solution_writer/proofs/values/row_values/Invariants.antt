use Rattle.std.proofs.Common.{◌≡◌, ◌++◌, drop}
use Rattle.gmpl_generate.specs.Solved.{RowsFit}
use Rattle.solution_writer.specs.Report.{row_values}
use Rattle.solution_writer.proofs.values.row_values.Given as goal

abbrev pub invariant-loop-i : goal.invariant-loop-i
invariant-loop-i l = record {
  values : row_values l.point l.problem.rows ≡ l.values.items ++ row_values l.point (drop l.i l.problem.rows);
  fit : RowsFit l.point (drop l.i l.problem.rows);
}
