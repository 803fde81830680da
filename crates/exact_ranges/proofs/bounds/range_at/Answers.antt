use Rattle.exact_ranges.specs.ShownBest.{best_point, best_weights}
use Rattle.exact_ranges.proofs.UsedBounds.{is_used}
use Rattle.exact_ranges.proofs.bounds.range_at.Goals as goal

pub range_of-requires-clause-used : goal.range_of-requires-clause-used
range_of-requires-clause-used c = is_used c.args.problem.now (best_point c.args.certificate.now) (best_weights c.args.certificate.now) c.args.row c.args.side c.args.bound c.in-Ok.used c.in-Ok.ensures.made c.requires.bound
