use Rattle.std.proofs.Common.{◌∙◌, sym, ap, take}
use Rattle.std.specs.Option.{option_map}
use Rattle.fraction.specs.CanonicalReading.{kept_quotient}
use Rattle.fraction.proofs.CanonicalLemmas.{quotient_halves, quotient_whole, denominator_none, denominator_some}
use Rattle.fraction.proofs.canonical.read_quotient.Goals as goal

pub returns-in_err-denominator-in-Some-clause-value : goal.returns-in_err-denominator-in-Some-clause-value
returns-in_err-denominator-in-Some-clause-value c =
    let text = c.args.text.now in
    let rest = c.after.result.now in
    c.from_residual.ensures ∙ ap (option_map kept_quotient) (sym (quotient_halves text rest c.in-Some.slash (sym c.slash_place.ensures ∙ c.in-Some.is) c.after.ensures
    ∙ denominator_none (take c.in-Some.slash text) rest (sym c.denominator.ensures.value ∙ c.in_err-denominator-in-Some.was)))

pub returns-in_ok-denominator-in-Some-clause-value : goal.returns-in_ok-denominator-in-Some-clause-value
returns-in_ok-denominator-in-Some-clause-value c =
    let text = c.args.text.now in
    let rest = c.after.result.now in
    c.numerator.ensures.value ∙ denominator_some (take c.in-Some.slash text) rest c.in_ok-denominator-in-Some.field-0 (sym c.denominator.ensures.value ∙ c.in_ok-denominator-in-Some.was)
    ∙ ap (option_map kept_quotient) (sym (quotient_halves text rest c.in-Some.slash (sym c.slash_place.ensures ∙ c.in-Some.is) c.after.ensures))

pub returns-in-None-clause-value : goal.returns-in-None-clause-value
returns-in-None-clause-value c = c.numerator-in-None.ensures.value ∙ ap (option_map kept_quotient) (sym (quotient_whole c.args.text.now (sym c.slash_place.ensures ∙ c.in-None.is)))
