use Rattle.std.proofs.Common.{◌<◌, ◌-◌, ℕ, length}
use Rattle.tree_pool.specs.declared.kind.Kind.TheVariants.{LeasedUnder}
use Rattle.tree_pool.specs.Ledger.{IsPlaceOf}
use Rattle.tree_pool.proofs.scan.any_under.Given as goal

abbrev pub invariant-loop-at : goal.invariant-loop-at
invariant-loop-at l = (n : ℕ) → n < l.at → ¬ (IsPlaceOf (LeasedUnder l.number) l.log l.nodes n)

abbrev pub decreases-loop-at : goal.decreases-loop-at
decreases-loop-at l = length l.nodes - l.at
