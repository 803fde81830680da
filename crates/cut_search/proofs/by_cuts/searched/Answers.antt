use Rattle.cut_search.proofs.CutsLeft.{left_itself}
use Rattle.cut_search.proofs.by_cuts.searched.Goals as goal

pub returns-clause-itself : goal.returns-clause-itself
returns-clause-itself g c =
    left_itself c.args.plan.cuts c.args.plan.row_splits c.args.problem.now c.args.plan.split_limit c.args.plan.pivot_limit c.solve.result c.solve.ensures.fault
