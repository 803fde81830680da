use Rattle.std.proofs.Common.{◌≡◌, ◌∙◌, map, ap}
use Rattle.instance.specs.Continuous as spec
use Rattle.instance.proofs.Continuous.{well_formed, within_limits}
use Rattle.instance.proofs.problem.Instance.without_integrality.Goals as goal

pub invariant_of-result : goal.invariant_of-result
invariant_of-result c =
    let kept = c.self.inside in
    let made = c.in_ok-columns.columns.items in
    let is : made ≡ map spec.continuous kept.columns.items = c.in_ok-columns.ensures ∙ ap (map spec.continuous) c.deref.ensures.value in
    record {
      limits = within_limits kept.columns.items made kept.rows.items is c.self.invariant.limits;
      well_formed = well_formed kept.columns.items made kept.rows.items is kept.objective c.self.invariant.well_formed;
    }
