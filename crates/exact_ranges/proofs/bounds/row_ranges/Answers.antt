use Rattle.std.proofs.Common.{slice_get}
use Rattle.exact_ranges.specs.ShownBest.{best_point, best_weights}
use Rattle.exact_ranges.proofs.UsedBounds.{both_sides}
use Rattle.exact_ranges.proofs.bounds.row_ranges.Goals as goal

pub returns-clause-ranges : goal.returns-clause-ranges
returns-clause-ranges c =
    let p = c.args.problem.now in
    both_sides p (best_point c.args.certificate.now) (best_weights c.args.certificate.now) c.args.row (slice_get p.rows c.args.row) c.in_ok-lower.lower c.in_ok-upper.upper c.in_ok-lower.ensures.range c.in_ok-upper.ensures.range
