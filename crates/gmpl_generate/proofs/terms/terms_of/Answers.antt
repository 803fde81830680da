-- A term more, or a fault of one.
use Rattle.gmpl_generate.proofs.TermSteps.{terms_on, terms_fail, handed_on}
use Rattle.gmpl_generate.proofs.terms.terms_of.Goals as goal

pub returns-in_err-push_term-clause-value : goal.returns-in_err-push_term-clause-value
returns-in_err-push_term-clause-value c =
    let f = c.in_err-push_term.field-0.0 in
    handed_on (λ terms. terms.items) c.from_residual.result f _ c.from_residual.ensures.1
    (terms_fail c.args.model.now c.loop-place.found.items c.args.form.now.terms c.loop-place.place f _ c.loop-place.invariant.0 c.in_err-push_term.ensures.value)

pub loop-place-preserved : goal.loop-place-preserved
loop-place-preserved c = (
  terms_on c.args.model.now c.loop-place.found.items c.push_term.new.found.items c.args.form.now.terms c.loop-place.place _ c.loop-place.invariant.0 c.in_ok-push_term.ensures.value,
  c.in_ok-push_term.ensures.of,
)
