use Rattle.std.proofs.Common.{◌≡◌, ◌++◌, drop, string_bytes}
use Rattle.solution_writer.specs.Solution.{number_lines}
use Rattle.solution_writer.proofs.solution.number_lines.Given as goal

abbrev pub invariant-loop-i : goal.invariant-loop-i
invariant-loop-i l = number_lines l.letter 0 l.numbers ≡ string_bytes l.text ++ number_lines l.letter l.i (drop l.i l.numbers)
