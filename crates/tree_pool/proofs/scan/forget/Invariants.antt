use Rattle.std.proofs.Common.{◌≤◌, length}
use Rattle.tree_pool.proofs.scan.forget.Given as goal

abbrev pub invariant-loop-at : goal.invariant-loop-at
invariant-loop-at l = l.at ≤ length l.leased.items

abbrev pub decreases-loop-at : goal.decreases-loop-at
decreases-loop-at l = l.at
