use Rattle.std.proofs.Common.{◌≡◌, ◌++◌, drop, string_bytes}
use Rattle.solution_writer.specs.Report.{row_lines}
use Rattle.solution_writer.proofs.lines.row_lines.Given as goal

abbrev pub invariant-loop-i : goal.invariant-loop-i
invariant-loop-i l = row_lines l.rows l.values ≡ string_bytes l.text ++ row_lines (drop l.i l.rows) (drop l.i l.values)
