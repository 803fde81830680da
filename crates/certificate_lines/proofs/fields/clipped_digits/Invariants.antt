use Rattle.std.proofs.Common.{◌≡◌, ◌≤◌, ◌^◌, drop}
use Rattle.fraction.specs.Literal.{digits_on}
use Rattle.certificate_lines.proofs.Digits.{clipped}
use Rattle.certificate_lines.proofs.fields.clipped_digits.Given as goal

abbrev pub invariant-loop-digit : goal.invariant-loop-digit
invariant-loop-digit l = record { number : clipped (digits_on 0 l.field) ≡ clipped (digits_on l.value (drop l.digit-index l.field)); small : l.value ≤ 2 ^ 32 }
