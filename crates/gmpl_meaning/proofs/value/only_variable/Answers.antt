-- A form of one member.
use Rattle.std.proofs.Common.{◌∙◌, sym, ap}
use Rattle.std.specs.Option.{option_map}
use Rattle.rational.proofs.Laws.{same_true, zero_true}
use Rattle.gmpl_meaning.proofs.OneTerm.{form_of_one}
use Rattle.gmpl_meaning.proofs.value.only_variable.Goals as goal

pub returns-in-Some : goal.returns-in-Some
returns-in-Some c =
    form_of_one c.args.form.now c.in-Some.variable.now c.in-Some.coefficient.now
    (sym c.len.ensures.count ∙ c.if-len-ne1.false)
    (sym c.constant.ensures ∙ zero_true c.constant.result (sym c.is_zero.ensures ∙ c.if-not-is_zero.false))
    (same_true c.in-Some.coefficient.now c.one.result (sym c.eq.ensures ∙ c.if-eq.true) ∙ c.one.ensures)
    (sym (ap (option_map (λ t. (t.0.now, t.1.now))) c.in-Some.is) ∙ c.term.ensures)
