use Rattle.std.proofs.Common.{◌≡◌, ℕ, ◌<◌, ◌≤◌, ◌-◌, IfSome, slice_get, length}
use Rattle.milp.specs.Form.{number_at}
use Rattle.milp.specs.Points.{IsWithin}
use Rattle.search_tree.proofs.points.are_in_columns.Given as goal

abbrev pub invariant-loop-j : goal.invariant-loop-j
invariant-loop-j l = record {
  at_most : l.j ≤ length l.columns;
  size : length l.x ≡ length l.columns;
  within : (k : ℕ) → k < l.j → IfSome (slice_get l.columns k) (λ c. IsWithin c.lower c.upper (number_at l.x k));
}

abbrev pub decreases-loop-j : goal.decreases-loop-j
decreases-loop-j l = length l.columns - l.j
