-- What is left of the columns.
use Rattle.std.proofs.Common.{◌≡◌, drop}
use Rattle.gmpl_generate.specs.Solved.{with_columns}
use Rattle.gmpl_generate.proofs.solved.add_columns.Given as goal

abbrev pub invariant-loop-column : goal.invariant-loop-column
invariant-loop-column l =
    with_columns l.columns l.point l.duals l.initial.solution ≡ with_columns (drop l.column-index l.columns) l.left l.duals_left l.solution
