use Rattle.std.proofs.Common.{ℕ, ◌<◌, ◌≤◌, ◌-◌, IfSome, slice_get, length}
use Rattle.search_tree.specs.Told.{IsRowAtRest}
use Rattle.search_tree.proofs.telling.are_rows_at_rest.Given as goal

abbrev pub invariant-loop-k : goal.invariant-loop-k
invariant-loop-k l = record {
  at_most : l.k ≤ length l.items;
  rest : (n : ℕ) → n < l.k → IfSome (slice_get l.items n) (λ i. IsRowAtRest l.problem l.x i.index);
}

abbrev pub decreases-loop-k : goal.decreases-loop-k
decreases-loop-k l = length l.items - l.k
