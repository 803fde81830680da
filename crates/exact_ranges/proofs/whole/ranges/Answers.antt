use Rattle.exact_ranges.proofs.Accepted.{shown_best}
use Rattle.exact_ranges.proofs.whole.ranges.Goals as goal

pub found-requires-clause-best : goal.found-requires-clause-best
found-requires-clause-best c = shown_best c.args.problem.now c.args.certificate.now c.requires.optimal c.requires.plain c.requires.accepted
