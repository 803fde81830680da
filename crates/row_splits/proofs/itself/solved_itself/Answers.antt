use Rattle.std.proofs.Common.{sym, subst}
use Rattle.branch_search.specs.WholeFaults.{IsNotByPivots}
use Rattle.row_splits.proofs.Left.{left_itself, none_derived}
use Rattle.row_splits.proofs.itself.solved_itself.Goals as goal

pub returns-in-Err-clause-fault : goal.returns-in-Err-clause-fault
returns-in-Err-clause-fault g c = left_itself c.args.problem.now c.args.split_limit c.args.pivot_limit c.in-Err.fault c.unsolved.result c.unsolved.ensures.fault c.unsolved.ensures.shown c.in-Err.ensures.fault

pub returns-in-Err-clause-shows : goal.returns-in-Err-clause-shows
returns-in-Err-clause-shows g c = c.unsolved.ensures.passes c.args.problem.now c.args.split_limit c.args.pivot_limit c.in-Err.ensures.fault

pub returns-in-Err-clause-derived : goal.returns-in-Err-clause-derived
returns-in-Err-clause-derived g c = none_derived c.unsolved.result.shown (c.unsolved.ensures.columns c.args.problem.now c.args.split_limit c.args.pivot_limit c.in-Err.ensures.fault)

pub returns-in-Err-clause-unlimited : goal.returns-in-Err-clause-unlimited
returns-in-Err-clause-unlimited g c = λ none. subst IsNotByPivots (sym c.unsolved.ensures.fault) (c.in-Err.ensures.unlimited none)
