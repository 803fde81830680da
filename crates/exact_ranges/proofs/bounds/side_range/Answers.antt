use Rattle.std.proofs.Common.{◌∙◌, IfOk, sym, subst}
use Rattle.exact_ranges.specs.ShownBest.{best_point, best_weights}
use Rattle.exact_ranges.specs.Sought.{side_of}
use Rattle.exact_ranges.specs.Ranges.{IsBoundRange}
use Rattle.exact_ranges.proofs.bounds.side_range.Goals as goal

pub range_at-requires-clause-bound : goal.range_at-requires-clause-bound
range_at-requires-clause-bound c = c.requires.bound ∙ c.in-Some.is

pub returns-in-Some-clause-range : goal.returns-in-Some-clause-range
returns-in-Some-clause-range c =
    let p = c.args.problem.now in
    let x = best_point c.args.certificate.now in
    let w = best_weights c.args.certificate.now in
    subst (λ b. IfOk c.range_at.result (IsBoundRange p x w c.args.row (side_of c.args.side) b)) (sym c.in-Some.is) c.range_at.ensures.range
