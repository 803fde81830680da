use Rattle.std.proofs.Common.{sym, subst}
use Rattle.branch_search.specs.WholeFaults.{IsNotByPivots}
use Rattle.cut_search.proofs.CutsLeft.{left_behind_cuts, same_size}
use Rattle.cut_search.proofs.by_cuts.of_cut_problem.Goals as goal

pub from_found-requires : goal.from_found-requires
from_found-requires g c = (c.type_bounds.sync-R, (c.type_bounds.sync-G, same_size c.args.problem.now c.args.cut_problem.now c.args.cuts.now c.in-Ok.found c.requires.cut_problem c.in-Ok.ensures.proves))

pub returns-in-Err-clause-fault : goal.returns-in-Err-clause-fault
returns-in-Err-clause-fault g c =
    left_behind_cuts c.args.plan.cuts c.args.plan.row_splits c.args.problem.now c.args.cut_problem.now c.args.cuts.now c.args.plan.split_limit c.args.plan.pivot_limit c.in-Err.unsolved c.without_cuts.result
    c.requires.cuts c.requires.are_cuts c.requires.cut_problem c.without_cuts.ensures.same c.without_cuts.ensures.restored c.in-Err.ensures.fault

pub returns-in-Err-clause-unlimited : goal.returns-in-Err-clause-unlimited
returns-in-Err-clause-unlimited g c = λ none. subst IsNotByPivots (sym c.without_cuts.ensures.same) (c.in-Err.ensures.unlimited none)
