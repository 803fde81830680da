use Rattle.std.proofs.Common.{◌∙◌, ◌+◌, ◌-◌, ◌*◌, drop, sym, ap, arith}
use Rattle.std.proofs.lemmas.List.{get_or_read}
use Rattle.gmpl_formats.specs.Conversions.{number_on}
use Rattle.gmpl_formats.proofs.Steps.{number_more, number_over, number_end}
use Rattle.gmpl_formats.proofs.reading.number_in.Goals as goal

pub returns-then-number-most : goal.returns-then-number-most
returns-then-number-most c = sym (number_over c.args.most c.loop-digit.number (drop c.loop-digit.digit-index c.args.digits.now) (omega arith)) ∙ c.loop-digit.invariant

pub loop-digit-preserved : goal.loop-digit-preserved
loop-digit-preserved c =
    let digits = c.args.digits.now in
    let i = c.loop-digit.digit-index in
    let digit = get_or_read digits i c.digit-item.result c.loop-digit-test.true c.digit-item.is 0 in
    ap (λ x. number_on c.args.most x (drop (i + 1) digits)) (c.with_digit-number.ensures ∙ ap (λ d. 10 * c.loop-digit.number + (d - 48)) digit) ∙ sym (number_more c.args.most c.loop-digit.number digits i c.loop-digit-test.true (omega arith)) ∙ c.loop-digit.invariant

pub returns : goal.returns
returns c = c.within.ensures ∙ sym (number_end c.args.most c.loop-digit.number c.args.digits.now c.loop-digit.digit-index (omega arith)) ∙ c.loop-digit.invariant
