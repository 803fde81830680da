use Rattle.std.proofs.Common.{ℕ, sym, subst}
use Rattle.exact_ranges.specs.ShownBest.{best_point}
use Rattle.exact_ranges.specs.Ranges.{IsCostRange, AreCostRanges}
use Rattle.exact_ranges.proofs.Lists.{one_more, one_longer}
use Rattle.exact_ranges.proofs.costs.each_range.Goals as goal

pub loop-column-preserved : goal.loop-column-preserved
loop-column-preserved c =
    let p = c.args.problem.now in
    let x = best_point c.args.certificate.now in
    let ranges = c.loop-column.ranges.items in
    let range = c.in_ok-range.range in
    let done = c.loop-column.invariant in
    let last = subst (λ (n : ℕ). IsCostRange p x n range) (sym done.0) c.in_ok-range.ensures.range in
    (one_longer ranges range c.add.new.ranges.items c.loop-column.column done.0 c.in_ok-add.ensures, subst (AreCostRanges p x) (sym c.in_ok-add.ensures) (one_more (IsCostRange p x) ranges range done.1 last))
