use Rattle.std.proofs.Common.{◌∙◌, ap, Ok}
use Rattle.branch_search.proofs.Causes.{after_search}
use Rattle.branch_search.proofs.WholeEnds.{tested_by}
use Rattle.branch_search.proofs.endless.beyond.Goals as goal

pub at_once-requires-clause-point : goal.at_once-requires-clause-point
at_once-requires-clause-point c = tested_by c.args.problem.now c.args.ray.endless.point c.meets.result c.meets.ensures.exact c.meets.ensures.feasible (c.in-Ok-true.is ∙ ap Ok c.in-Ok-true.field-0-test)

pub returns-in-Ok-true-clause-fault : goal.returns-in-Ok-true-clause-fault
returns-in-Ok-true-clause-fault c = after_search c.args.problem.now c.args.split_limit c.args.pivot_limit c.at_once.result c.at_once.ensures.fault
