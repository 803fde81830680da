use Rattle.std.proofs.Common.{ℕ, ◌<◌, ◌≤◌, ◌-◌, IfSome, IsTrue, slice_get, length}
use Rattle.milp.specs.Form.{number_at}
use Rattle.milp.specs.Points.{IsWhole}
use Rattle.branch_search.proofs.testing.first_fraction.Given as goal

abbrev pub invariant-loop-j : goal.invariant-loop-j
invariant-loop-j l = record {
  within : l.j ≤ length l.columns;
  whole : (k : ℕ) → k < l.j → IfSome (slice_get l.columns k) (λ c. IsTrue c.integer → IsWhole (number_at l.point k));
}

abbrev pub decreases-loop-j : goal.decreases-loop-j
decreases-loop-j l = length l.columns - l.j
