use Rattle.std.proofs.Common.{◌∙◌, ◌++◌, lit<, string_bytes, ◌<◌, ◌-◌, ◌/◌, ◌%◌, ◌^◌, sym, ap, subst, arith}
use Rattle.std.proofs.lemmas.Result.{on_ok_weaker}
use Rattle.decimals.proofs.Powers.{tens_pos, tens_up}
use Rattle.wide.specs.Parts.{part_end}
use Rattle.decimals.proofs.DigitLemmas.{whole_and_rest, front_and_rest, front_parts}
use Rattle.decimals.proofs.digits.+push_written.Goals as goal

pub divided_by-whole-requires-clause-positive : goal.divided_by-whole-requires-clause-positive
divided_by-whole-requires-clause-positive t c = subst (λ x. 0 < x) (sym c.pow.ensures) (tens_pos c.args.places)

pub overflow_cast-rest : goal.overflow_cast-rest
overflow_cast-rest t c =
    let some = tens_pos c.args.places in
    let most = tens_up c.args.places 18 c.if-places-le-WORD_PLACES.true in
    omega arith

pub push_written-requires : goal.push_written-requires
push_written-requires t c =
    (omega arith, subst (λ x. x < part_end) (sym (ap (λ x. x / 10 ^ (c.args.places - 18)) c.divided_by-front.ensures.quotient ∙ front_parts 18 c.args.places c.args.number (omega arith))) c.requires)

pub returns-in_ok-push : goal.returns-in_ok-push
returns-in_ok-push t c =
    on_ok_weaker c.push_digits.result (λ e. e ∙ whole_and_rest _ _ _ c.args.number c.args.places _ _ (omega arith) (c.divided_by-whole.ensures.quotient ∙ ap (λ x. c.args.number / x) c.pow.ensures)
    (c.divided_by-whole.ensures.rest ∙ ap (λ x. c.args.number % x) c.pow.ensures) c.in_ok-push_whole.ensures (c.in_ok-push.ensures.bytes ∙ ap (λ x. string_bytes c.push_whole-then-places-le-WORD_PLACES.new.text ++ x) (c.in_ok-push.ensures.ascii (lit< tt)))) c.push_digits.ensures

pub returns-in_ok-push_written : goal.returns-in_ok-push_written
returns-in_ok-push_written t c =
    on_ok_weaker c.push_digits-else-places-le-WORD_PLACES.result (λ e. e ∙ front_and_rest _ _ c.args.number 18 c.args.places _ _ (omega arith) c.divided_by-front.ensures.quotient c.divided_by-front.ensures.rest
    c.in_ok-push_written.ensures) c.push_digits-else-places-le-WORD_PLACES.ensures
