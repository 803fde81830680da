use Rattle.std.proofs.Common.{◌≡◌, ◌++◌, drop, string_bytes}
use Rattle.solution_writer.specs.Report.{column_lines}
use Rattle.solution_writer.proofs.lines.column_lines.Given as goal

abbrev pub invariant-loop-i : goal.invariant-loop-i
invariant-loop-i l = column_lines l.columns l.point ≡ string_bytes l.text ++ column_lines (drop l.i l.columns) (drop l.i l.point)
