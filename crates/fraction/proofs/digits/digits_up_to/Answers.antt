use Rattle.std.proofs.Common.{◌+◌, ◌∙◌, sym, get_or, drop, arith}
use Rattle.std.proofs.lemmas.List.{at_drop_more}
use Rattle.std.specs.Option.{option_map}
use Rattle.fraction.specs.Reading.{clipped}
use Rattle.fraction.specs.Literal.{digits_on}
use Rattle.fraction.proofs.ReadLemmas.{clip_next}
use Rattle.fraction.proofs.digits.digits_up_to.Goals as goal

pub loop-c-preserved : goal.loop-c-preserved
loop-c-preserved c =
    let text = c.args.text.now in
    let i = c.loop-c.c-index in
    let limit = c.args.limit in
    let same = clip_next limit c.loop-c.number c.with_digit-number.result (get_or text i 0) (drop (i + 1) text) (sym c.is_ascii_digit.ensures.value ∙ c.if-not-is_ascii_digit.false) c.with_digit-number.ensures in
    (same ∙ sym (at_drop_more (λ cs. option_map (clipped limit) (digits_on c.loop-c.number cs)) text i 0 c.loop-c-test.true) ∙ c.loop-c.invariant.0, omega arith)
