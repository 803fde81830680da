use Rattle.std.proofs.Common.{◌≡◌, ◌∙◌, sym, subst, arith, ◌-◌, ◌+◌, suc}
use Rattle.gmpl_value.specs.Follows.{Faults}
use Rattle.gmpl_value.proofs.RangeSteps.{one_more, no_more}
use Rattle.gmpl_value.proofs.SetLemmas.{handed_on}
use Rattle.gmpl_value.proofs.progression.stepped.Goals as goal

pub returns-in_err-number : goal.returns-in_err-number
returns-in_err-number c =
    let left : c.args.count - c.loop-step._step ≡ suc (c.args.count - (c.loop-step._step + 1)) = omega (arith, c.loop-step-test.true) in
    handed_on _ c.from_residual-in_err-number.result c.in_err-number.field-0.0 _ c.from_residual-in_err-number.ensures.1
    (subst (Faults c.in_err-number.field-0.0) c.loop-step.invariant (no_more _ _ c.loop-step.found.items c.loop-step.number c.args.by c.in_err-number.field-0.0 left c.in_err-number.ensures))

pub loop-step-preserved : goal.loop-step-preserved
loop-step-preserved c =
    let left : c.args.count - c.loop-step._step ≡ suc (c.args.count - (c.loop-step._step + 1)) = omega (arith, c.loop-step-test.true) in
    rw c.in_ok-push.ensures.items (sym (one_more _ _ c.loop-step.found.items c.loop-step.number c.in_ok-number.number c.args.by left c.in_ok-number.ensures) ∙ c.loop-step.invariant)
