use Rattle.std.proofs.Common.{◌≡◌, ◌++◌, drop, string_bytes}
use Rattle.certificate.specs.Text.{numbers_text}
use Rattle.certificate.proofs.writing.numbers_text.Given as goal

abbrev pub invariant-loop-number : goal.invariant-loop-number
invariant-loop-number l = numbers_text l.numbers ≡ string_bytes l.text ++ numbers_text (drop l.number-index l.numbers)
