use Rattle.std.proofs.Common.{◌≡◌, length}
use Rattle.exact_ranges.specs.ShownBest.{best_point, best_weights}
use Rattle.exact_ranges.specs.Ranges.{AreBoundRanges}
use Rattle.exact_ranges.proofs.bounds.bound_ranges.Given as goal

abbrev pub invariant-loop-row : goal.invariant-loop-row
invariant-loop-row l = (length l.ranges.items ≡ l.row) × AreBoundRanges l.problem (best_point l.certificate) (best_weights l.certificate) l.ranges.items
