use Rattle.std.proofs.Common.{◌∙◌, sym}
use Rattle.branch_search.specs.declared.whole_fault.Wanted.TheVariants.{Best}
use Rattle.branch_search.proofs.Causes.{ray_found, search_fault}
use Rattle.shared_search.proofs.any_problem.solve_with_workers.Goals as goal

pub returns-in-Err-ray_or_fault-clause-fault : goal.returns-in-Err-ray_or_fault-clause-fault
returns-in-Err-ray_or_fault-clause-fault g c =
    search_fault c.args.problem.now c.args.split_limit c.args.pivot_limit Best c.in-Err.fault c.in-Err-ray_or_fault.fault
    (sym c.ray_or_fault.ensures ∙ c.in-Err-ray_or_fault.is) tt c.in-Err.ensures.fault

pub beyond-requires : goal.beyond-requires
beyond-requires g c =
    ray_found c.args.problem.now c.args.split_limit c.args.pivot_limit Best c.in-Err.fault c.in-Ok-ray_or_fault.ray
    (sym c.ray_or_fault.ensures ∙ c.in-Ok-ray_or_fault.is) c.in-Err.ensures.fault
