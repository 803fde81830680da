use Rattle.std.proofs.Common.{◌∙◌, length, ap}
use Rattle.milp.specs.Form.{number_at}
use Rattle.basis.specs.Weights.{numbers_from}
use Rattle.search_node.specs.Sides.{sides_of}
use Rattle.simplex.specs.Ratio.{along}
use Rattle.simplex.specs.Rays.{IsRayFault}
use Rattle.simplex.specs.Answer.{IsNodeFault}
use Rattle.simplex.proofs.NodeEnds.{fault_kept, ray_fault, made_unbounded}
use Rattle.simplex.proofs.answers.unbounded.Goals as goal

pub returns-in_err-ray-clause-err : goal.returns-in_err-ray-clause-err
returns-in_err-ray-clause-err c =
    let p = c.args.instance.now in
    let ds = c.args.derived.now in
    let sides = sides_of c.args.node.now.splits in
    fault_kept c.from_residual-in_err-ray.result c.in_err-ray.field-0.0 (IsRayFault c.columns-columns.result.now (along c.args.ended.now.dictionary c.args.q c.args.rises)) (IsNodeFault p ds sides) c.from_residual-in_err-ray.ensures.1
    (λ f h. ray_fault p ds sides c.args.ended.now.dictionary c.args.ended.now.values.items c.args.q c.args.rises c.requires c.columns-columns.result.now f c.columns-columns.ensures h) c.in_err-ray.ensures.err

pub returns-clause-ok : goal.returns-clause-ok
returns-clause-ok c =
    made_unbounded c.args.instance.now c.args.derived.now (sides_of c.args.node.now.splits) c.args.ended.now.dictionary c.args.ended.now.values.items c.args.q c.args.rises c.columns-columns.result.now c.in_ok-point.point c.in_ok-ray.ray c.requires c.columns-columns.ensures
    (c.in_ok-point.ensures ∙ ap (λ values. numbers_from 0 (length c.columns-columns.result.now) (number_at values)) c.deref.ensures.value) c.in_ok-ray.ensures.ok
