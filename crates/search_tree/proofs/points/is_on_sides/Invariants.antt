use Rattle.std.proofs.Common.{ℕ, ◌<◌, ◌≤◌, ◌-◌, IfSome, slice_get, length}
use Rattle.certificate.specs.Ways.{side_of}
use Rattle.search_tree.specs.Points.{IsOfColumn, IsOnSide}
use Rattle.search_tree.proofs.points.is_on_sides.Given as goal

abbrev pub invariant-loop-k : goal.invariant-loop-k
invariant-loop-k l = record {
  at_most : l.k ≤ length l.splits;
  on : (n : ℕ) → n < l.k → IfSome (slice_get l.splits n) (λ t. IsOfColumn t.split × IsOnSide l.x (side_of t.split t.side));
}

abbrev pub decreases-loop-k : goal.decreases-loop-k
decreases-loop-k l = length l.splits - l.k
