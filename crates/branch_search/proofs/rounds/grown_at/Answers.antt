use Rattle.branch_search.proofs.Standing.{fault_on}
use Rattle.branch_search.proofs.rounds.grown_at.Goals as goal

pub returns-clause-fault : goal.returns-clause-fault
returns-clause-fault c =
    let b = c.args.board.now in
    fault_on c.grow.result b c.problem-problem.result.now c.cuts-cuts.result.now c.args.pivot_limit c.problem-problem.ensures c.cuts-cuts.ensures c.requires.pivots (c.grow.ensures.fault b.split_limit c.in_ok-node.ensures.room)
