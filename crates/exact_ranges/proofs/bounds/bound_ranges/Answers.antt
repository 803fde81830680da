use Rattle.std.proofs.Common.{ℕ, IfSome, slice_get, sym, subst}
use Rattle.milp.specs.Problem.{Row}
use Rattle.exact_ranges.specs.ShownBest.{best_point, best_weights}
use Rattle.exact_ranges.specs.Ranges.{RowRanges, AreRangesOf, AreBoundRanges}
use Rattle.exact_ranges.proofs.Lists.{one_more, one_longer}
use Rattle.exact_ranges.proofs.bounds.bound_ranges.Goals as goal

pub loop-row-preserved : goal.loop-row-preserved
loop-row-preserved c =
    let p = c.args.problem.now in
    let x = best_point c.args.certificate.now in
    let w = best_weights c.args.certificate.now in
    let ranges = c.loop-row.ranges.items in
    let made = c.in_ok-made.made in
    let done = c.loop-row.invariant in
    let P : ℕ → RowRanges → Type 0 = λ k r. IfSome (slice_get p.rows k) (λ (row : Row). AreRangesOf p x w k row r) in
    let last = subst (λ (n : ℕ). P n made) (sym done.0) c.in_ok-made.ensures.ranges in
    (one_longer ranges made c.add.new.ranges.items c.loop-row.row done.0 c.in_ok-add.ensures, subst (AreBoundRanges p x w) (sym c.in_ok-add.ensures) (one_more P ranges made done.1 last))
