-- What is left of the rows.
use Rattle.std.proofs.Common.{◌≡◌, drop}
use Rattle.gmpl_generate.specs.Solved.{with_rows, RowsFit}
use Rattle.gmpl_generate.proofs.solved.add_rows.Given as goal

abbrev pub invariant-loop-i : goal.invariant-loop-i
invariant-loop-i l = record {
  solution : with_rows l.point l.members l.problem.rows l.duals l.initial.solution ≡ with_rows l.point l.left (drop l.i l.problem.rows) l.duals_left l.solution;
  fit : RowsFit l.point (drop l.i l.problem.rows);
}
