use Rattle.std.proofs.Common.{◌≡◌, ◌∙◌, length, ap, Err}
use Rattle.rational.specs.Rational.{one_ℚ, ◌+ℚ◌}
use Rattle.milp.specs.Form.{number_at, sum_at}
use Rattle.gomory.specs.Cuts.{sum_coefficient, form_from}
use Rattle.gomory.specs.Faults.{bound_answer, IsCutFault}
use Rattle.gomory.proofs.MadeCuts.{bound_fault, cut_made, kept}
use Rattle.gomory.proofs.making.made.Goals as goal

pub returns-in_err-bound-clause-fault : goal.returns-in_err-bound-clause-fault
returns-in_err-bound-clause-fault c =
    kept c.from_residual-in_err-bound.result c.in_err-bound.field-0.0 (λ o. bound_answer c.args.at.now (form_from 0 (length c.deref.result.now) (number_at c.deref.result.now)) ≡ Err o)
    (IsCutFault c.args.instance.now c.args.places.now c.args.rates.now c.args.at.now c.args.r) c.from_residual-in_err-bound.ensures.1
    (bound_fault c.args.instance.now c.args.places.now c.args.rates.now c.args.at.now c.args.r c.deref.result.now c.requires.places (c.deref.ensures.value ∙ c.in_ok-weights.ensures.numbers))
    c.in_err-bound.ensures.fault

pub returns-clause-cut : goal.returns-clause-cut
returns-clause-cut c =
    let p = c.args.instance.now in
    cut_made p c.args.places.now c.args.rates.now c.args.at.now c.args.r c.in_ok-weights.weights.items c.requires.places c.in_ok-weights.ensures.numbers
    c.in_ok-bound.bound c.in_ok-form.form c.in_ok-split.split c.new.result
    (c.in_ok-bound.ensures.value ∙ ap (λ list. sum_at c.args.at.now (form_from 0 (length list) (number_at list)) +ℚ one_ℚ) c.deref.ensures.value)
    (c.in_ok-form.ensures.form ∙ ap (λ list. form_from 0 (length p.columns) (sum_coefficient p (number_at list))) c.deref-2.ensures.value)
    c.in_ok-split.ensures.split c.new.ensures
