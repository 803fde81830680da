use Rattle.branch_search.proofs.Sites.{stuck_at}
use Rattle.branch_search.proofs.growing.stuck.Goals as goal

pub returns : goal.returns
returns c = λ splits pivots way.
    stuck_at c.args.problem.now c.args.cuts.now splits (record { node = c.args.node; fault = c.args.fault }) c.keeps_its_limits.ensures.well_formed c.requires.cuts way c.requires.fault
