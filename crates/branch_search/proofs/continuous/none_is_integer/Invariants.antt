use Rattle.std.proofs.Common.{◌≡◌, ◌<◌, ℕ, false, IfSome, slice_get}
use Rattle.branch_search.proofs.continuous.none_is_integer.Given as goal

abbrev pub invariant-loop-column : goal.invariant-loop-column
invariant-loop-column l = (j : ℕ) → j < l.column-index → IfSome (slice_get l.columns j) (λ c. c.integer ≡ false)
