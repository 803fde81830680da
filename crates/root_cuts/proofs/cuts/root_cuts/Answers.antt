use Rattle.root_cuts.proofs.MadeRootCuts.{found_within}
use Rattle.root_cuts.proofs.cuts.root_cuts.Goals as goal

pub returns-in-Ok-Optimal-clause-within : goal.returns-in-Ok-Optimal-clause-within
returns-in-Ok-Optimal-clause-within c = found_within c.args.problem.now c.root_is_over_columns.ensures c.cuts_at.result c.cuts_at.ensures
