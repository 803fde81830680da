use Rattle.std.proofs.Common.{◌≡◌, ◌∙◌, ◌+◌, ◌*◌, min, get_or, true, arith, sym, ap, ℕ}
use Rattle.std.specs.Char.{is_ascii_digit}
use Rattle.certificate_lines.proofs.Digits.{clipped_step}
use Rattle.certificate_lines.proofs.fields.clipped_digits.Goals as goal

pub loop-digit-preserved : goal.loop-digit-preserved
loop-digit-preserved c =
    let digit : is_ascii_digit (get_or c.args.field.now c.loop-digit.digit-index 0) ≡ true = sym c.is_ascii_digit.ensures.value ∙ c.if-not-is_ascii_digit.false in
    let m = c.min-value.ensures in
    let f = c.from.ensures in
    record { number = clipped_step c.args.field.now c.loop-digit.digit-index c.loop-digit.value c.min-value.result _ c.loop-digit-test.true digit (m ∙ ap (λ (d : ℕ). min (10 * c.loop-digit.value + d) 4294967296) f) c.loop-digit.invariant.number; small = omega arith }
