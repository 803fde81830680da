use Rattle.std.proofs.Common.{◌≡◌, ◌++◌, drop, string_bytes}
use Rattle.solution_writer.specs.Subset.{numbers_text}
use Rattle.solution_writer.proofs.subset.numbers_text.Given as goal

abbrev pub invariant-loop-number : goal.invariant-loop-number
invariant-loop-number l = numbers_text l.numbers ≡ string_bytes l.text ++ numbers_text (drop l.number-index l.numbers)
