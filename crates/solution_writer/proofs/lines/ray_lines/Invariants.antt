use Rattle.std.proofs.Common.{◌≡◌, ◌++◌, drop, string_bytes}
use Rattle.solution_writer.specs.Report.{ray_lines}
use Rattle.solution_writer.proofs.lines.ray_lines.Given as goal

abbrev pub invariant-loop-i : goal.invariant-loop-i
invariant-loop-i l = ray_lines l.columns l.point l.ray ≡ string_bytes l.text ++ ray_lines (drop l.i l.columns) (drop l.i l.point) (drop l.i l.ray)
