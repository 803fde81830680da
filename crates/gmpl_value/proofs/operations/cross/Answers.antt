use Rattle.std.proofs.Common.{◌∙◌, subst}
use Rattle.gmpl_value.specs.Follows.{Faults}
use Rattle.gmpl_value.proofs.SetLemmas.{handed_on, joined_on, joined_fails}
use Rattle.gmpl_value.proofs.operations.cross.Goals as goal

pub returns-in_err-add_joined : goal.returns-in_err-add_joined
returns-in_err-add_joined c =
    let f = c.in_err-add_joined.field-0.0 in
    let fails = joined_fails c.elements-tuple-items.result.now c.args.first.now c.args.second.now c.loop-tuple.found c.loop-tuple.tuple-index c.tuple-item.result f
    c.elements-tuple-items.ensures.elements c.loop-tuple-test.true c.tuple-item.is c.in_err-add_joined.ensures in
    handed_on (λ s. s) c.from_residual.result f _ c.from_residual.ensures.1 (subst (Faults f) c.loop-tuple.invariant fails)

pub loop-tuple-preserved : goal.loop-tuple-preserved
loop-tuple-preserved c =
    joined_on c.elements-tuple-items.result.now c.args.first.now c.args.second.now c.loop-tuple.found c.loop-tuple.tuple-index c.tuple-item.result c.add_joined.new.found
    c.elements-tuple-items.ensures.elements c.loop-tuple-test.true c.tuple-item.is c.in_ok-add_joined.ensures ∙ c.loop-tuple.invariant
