use Rattle.std.proofs.Common.{◌≡◌, ◌∙◌, sym, arith, ◌-◌, ◌+◌, suc}
use Rattle.gmpl_value.specs.declared.eval_fault.EvalFault.TheVariants.{NoFit}
use Rattle.gmpl_functions.proofs.Factors.{one_more, no_more, handed_on}
use Rattle.gmpl_functions.proofs.powers.multiplied.Goals as goal

pub returns-in_err-product : goal.returns-in_err-product
returns-in_err-product c =
    let left : c.args.count - c.loop-step._step ≡ suc (c.args.count - (c.loop-step._step + 1)) = omega (arith, c.loop-step-test.true) in
    handed_on c.from_residual.result (NoFit c.in_err-product.field-0.0) _ c.from_residual.ensures.1
    (sym c.loop-step.invariant ∙ no_more _ _ c.loop-step.product c.args.x c.in_err-product.field-0.0 left (sym c.mul.ensures ∙ c.in_err-product.was))

pub loop-step-preserved : goal.loop-step-preserved
loop-step-preserved c =
    let left : c.args.count - c.loop-step._step ≡ suc (c.args.count - (c.loop-step._step + 1)) = omega (arith, c.loop-step-test.true) in
    sym (one_more _ _ c.loop-step.product c.in_ok-product.product c.args.x left (sym c.mul.ensures ∙ c.in_ok-product.was)) ∙ c.loop-step.invariant
