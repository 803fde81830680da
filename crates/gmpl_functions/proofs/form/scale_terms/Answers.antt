use Rattle.std.proofs.Common.{◌≡◌, ◌∙◌, ◌<◌, ◌≤◌, ◌+◌, suc, length, ap, arith, subst, sym}
use Rattle.gmpl_value.specs.Outcome.{Faults}
use Rattle.gmpl_functions.specs.Scalings.{scaled_number}
use Rattle.gmpl_functions.proofs.ScalingSteps.{all_scaled, length-with_value_at, scaled_fails, scaled_from, scaled_on}
use Rattle.gmpl_functions.proofs.SumSteps.{handed_on}
use Rattle.gmpl_functions.proofs.form.scale_terms.Goals as goal

pub returns-in_err-scaled : goal.returns-in_err-scaled
returns-in_err-scaled c =
    let f = c.in_err-scaled.field-0.0 in
    let scaling = c.args.scaling.now in
    let entries = c.loop-place.terms.entries in
    let below : c.loop-place.place < length entries = omega (arith, c.loop-place-test.true, c.len-place-end.ensures.len, c.loop-place.invariant.count) in
    let fails = subst (λ q. Faults f (scaled_number scaling q)) c.coefficient_at.ensures c.in_err-scaled.ensures in
    handed_on c.from_residual.result f entries _ c.from_residual.ensures.1 (subst (Faults f) c.loop-place.invariant.terms (scaled_fails scaling c.loop-place.place entries f below fails))

pub loop-place-preserved : goal.loop-place-preserved
loop-place-preserved c =
    let scaling = c.args.scaling.now in
    let entries = c.loop-place.terms.entries in
    let place = c.loop-place.place in
    let below : place < length entries = omega (arith, c.loop-place-test.true, c.len-place-end.ensures.len, c.loop-place.invariant.count) in
    let next : place + 1 ≡ suc place = omega arith in
    let gives = sym (ap (scaled_number scaling) c.coefficient_at.ensures) ∙ c.in_ok-scaled.ensures in
    record {
      terms = (λ j. scaled_from scaling (next j) (c.set_coefficient.ensures j)) ∙ sym (scaled_on scaling place entries c.in_ok-scaled.scaled below gives) ∙ c.loop-place.invariant.terms;
      count = ap length c.set_coefficient.ensures ∙ length-with_value_at entries place c.in_ok-scaled.scaled ∙ c.loop-place.invariant.count;
    }

pub returns : goal.returns
returns c =
    let entries = c.loop-place.terms.entries in
    let past : length entries ≤ c.loop-place.place = omega (arith, c.loop-place-test.false, c.len-place-end.ensures.len, c.loop-place.invariant.count) in
    sym c.loop-place.invariant.terms ∙ all_scaled c.args.scaling.now c.loop-place.place entries past
