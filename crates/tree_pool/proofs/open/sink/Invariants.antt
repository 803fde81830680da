use Rattle.std.proofs.Common.{◌≡◌, ◌-◌, length}
use Rattle.tree_pool.proofs.open.sink.Given as goal

abbrev pub invariant-loop-at : goal.invariant-loop-at
invariant-loop-at l = length l.leaves ≡ length l.fn.leaves

abbrev pub decreases-loop-at : goal.decreases-loop-at
decreases-loop-at l = length l.leaves - l.at
