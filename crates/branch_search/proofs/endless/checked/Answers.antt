use Rattle.std.proofs.Common.{refl, sym}
use Rattle.branch_search.proofs.ColumnSplits.{ray_splits}
use Rattle.branch_search.proofs.PlainEnds.{ray_plain}
use Rattle.branch_search.proofs.WholeEnds.{ray_proves, not_refused, ray_fault, stuck_by_ray}
use Rattle.branch_search.proofs.endless.checked.Goals as goal

pub unreachable-requires : goal.unreachable-requires
unreachable-requires c =
    let p = c.args.problem.now in
    let proves = ray_proves p c.args.point c.args.ray.endless.ray c.of_ray-certificate.result c.of_ray-certificate.ensures c.requires.point c.requires.ray.endless.ray in
    not_refused p c.of_ray-certificate.result c.in-Ok-Refused.field-0 c.in-Ok-Refused.field-0-0 proves c.in-Ok-Refused.ensures.refused c.in-Ok-Refused.field-0-is

pub returns-in-Err-clause-fault : goal.returns-in-Err-clause-fault
returns-in-Err-clause-fault c =
    let p = c.args.problem.now in
    stuck_by_ray p c.args.split_limit c.args.ray (record { node = c.args.ray.node; fault = c.in-Err.field-0.fault }) c.keeps_its_limits.ensures.well_formed c.requires.ray
    (ray_fault p c.args.point c.args.ray.endless.ray c.of_ray-certificate.result _ c.in-Err.field-0.fault c.of_ray-certificate.ensures c.requires.point c.requires.ray.endless.ray (sym c.in-Err.ensures.exact)) refl

pub returns-in-Ok-Accepted-clause-plain : goal.returns-in-Ok-Accepted-clause-plain
returns-in-Ok-Accepted-clause-plain c = λ none. ray_plain c.args.problem.now c.args.point c.args.ray.endless.ray c.of_ray-certificate.result c.of_ray-certificate.ensures c.requires.point c.requires.ray.endless.ray

pub returns-in-Ok-Accepted-clause-splits : goal.returns-in-Ok-Accepted-clause-splits
returns-in-Ok-Accepted-clause-splits c = ray_splits c.args.problem.now c.args.point c.args.ray.endless.ray c.of_ray-certificate.result c.of_ray-certificate.ensures
