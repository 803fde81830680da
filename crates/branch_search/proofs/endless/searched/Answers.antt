use Rattle.std.proofs.Common.{◌∙◌, ap}
use Rattle.branch_search.specs.WholeFaults.{without_objective}
use Rattle.branch_search.proofs.PlainEnds.{plain_too}
use Rattle.branch_search.proofs.Causes.{never_endless, any_fault, after_search}
use Rattle.branch_search.proofs.endless.searched.Goals as goal

pub unreachable-requires : goal.unreachable-requires
unreachable-requires c =
    never_endless c.args.problem.now c.without_objective-feasibility.result c.args.split_limit c.args.pivot_limit c.in-Err.fault c.ray_or_fault.result c.in-Ok-ray_or_fault.field-0
    (c.without_objective-feasibility.ensures ∙ ap without_objective c.in_ok-copy.ensures) c.ray_or_fault.ensures c.in-Ok-ray_or_fault.is c.in-Err.ensures.fault

pub returns-in-Err-ray_or_fault-clause-fault : goal.returns-in-Err-ray_or_fault-clause-fault
returns-in-Err-ray_or_fault-clause-fault c =
    any_fault c.args.problem.now c.without_objective-feasibility.result c.args.split_limit c.args.pivot_limit c.in-Err.fault c.ray_or_fault.result c.in-Err-ray_or_fault.fault c.args.ray
    (c.without_objective-feasibility.ensures ∙ ap without_objective c.in_ok-copy.ensures) c.ray_or_fault.ensures c.in-Err-ray_or_fault.is c.requires c.in-Err.ensures.fault

pub returns-in-Ok-clause-fault : goal.returns-in-Ok-clause-fault
returns-in-Ok-clause-fault c = after_search c.args.problem.now c.args.split_limit c.args.pivot_limit c.decided.result c.decided.ensures.fault

pub decided-requires-clause-plain : goal.decided-requires-clause-plain
decided-requires-clause-plain c = plain_too c.args.problem.now c.without_objective-feasibility.result c.in-Ok.certificate (c.without_objective-feasibility.ensures ∙ ap without_objective c.in_ok-copy.ensures) c.in-Ok.ensures.plain
