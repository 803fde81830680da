use Rattle.std.proofs.Common.{◌≡◌, ◌++◌, drop, string_bytes}
use Rattle.solution_writer.specs.Solution.{step_lines}
use Rattle.solution_writer.proofs.solution.step_lines.Given as goal

abbrev pub invariant-loop-i : goal.invariant-loop-i
invariant-loop-i l = step_lines 0 l.point l.ray ≡ string_bytes l.text ++ step_lines l.i (drop l.i l.point) (drop l.i l.ray)
