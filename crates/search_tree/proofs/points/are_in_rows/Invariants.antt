use Rattle.std.proofs.Common.{ℕ, ◌<◌, ◌≤◌, ◌-◌, IfSome, slice_get, length}
use Rattle.milp.specs.Form.{sum_at}
use Rattle.milp.specs.Points.{IsWithin}
use Rattle.search_tree.proofs.points.are_in_rows.Given as goal

abbrev pub invariant-loop-i : goal.invariant-loop-i
invariant-loop-i l = record {
  at_most : l.i ≤ length l.rows;
  within : (k : ℕ) → k < l.i → IfSome (slice_get l.rows k) (λ r. IsWithin r.lower r.upper (sum_at l.x r.entries));
}

abbrev pub decreases-loop-i : goal.decreases-loop-i
decreases-loop-i l = length l.rows - l.i
