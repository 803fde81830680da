use Rattle.std.proofs.Common.{◌<◌, ◌-◌, ℕ, length}
use Rattle.tree_pool.specs.declared.kind.Kind.TheVariants.{ToDo}
use Rattle.tree_pool.specs.Ledger.{IsPlaceOf}
use Rattle.tree_pool.proofs.choice.any_todo.Given as goal

abbrev pub invariant-loop-at : goal.invariant-loop-at
invariant-loop-at l = (n : ℕ) → n < l.at → ¬ (IsPlaceOf ToDo l.log l.nodes n)

abbrev pub decreases-loop-at : goal.decreases-loop-at
decreases-loop-at l = length l.nodes - l.at
