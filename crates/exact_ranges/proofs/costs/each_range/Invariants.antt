use Rattle.std.proofs.Common.{◌≡◌, length}
use Rattle.exact_ranges.specs.ShownBest.{best_point}
use Rattle.exact_ranges.specs.Ranges.{AreCostRanges}
use Rattle.exact_ranges.proofs.costs.each_range.Given as goal

abbrev pub invariant-loop-column : goal.invariant-loop-column
invariant-loop-column l = (length l.ranges.items ≡ l.column) × AreCostRanges l.problem (best_point l.certificate) l.ranges.items
