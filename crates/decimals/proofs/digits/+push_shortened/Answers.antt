use Rattle.std.proofs.Common.{◌∙◌, ◌++◌, ◌<◌, ◌-◌, ◌/◌, ◌^◌, sym, ap, subst, arith}
use Rattle.std.proofs.lemmas.Result.{on_ok_weaker}
use Rattle.wide.specs.Parts.{part_end}
use Rattle.std.specs.Prelude.{string_bytes}
use Rattle.decimals.proofs.DigitLemmas.{front_parts, shortened_more}
use Rattle.decimals.proofs.digits.+push_shortened.Goals as goal

pub push_shortened-requires : goal.push_shortened-requires
push_shortened-requires t c =
    (omega arith, subst (λ x. x < part_end) (sym (ap (λ x. x / 10 ^ (c.args.places - 1)) c.divided_by-front.ensures.quotient ∙ front_parts 1 c.args.places c.args.number (omega arith))) c.requires)

pub returns-else-last-eq0 : goal.returns-else-last-eq0
returns-else-last-eq0 t c =
    on_ok_weaker c.push_written-else-last-eq0.result (λ e. e ∙ ap (λ x. string_bytes c.args.text.now ++ x) (sym (shortened_more c.args.places c.args.number _ (omega arith) c.divided_by-front.ensures.rest c.if-last-eq0.false)))
    c.push_written-else-last-eq0.ensures
