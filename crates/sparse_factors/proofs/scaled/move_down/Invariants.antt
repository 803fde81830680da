use Rattle.std.proofs.Common.{◌≡◌, length}
use Rattle.sparse_factors.proofs.scaled.move_down.Given as goal

abbrev pub invariant-loop-at : goal.invariant-loop-at
invariant-loop-at l = length l.places ≡ length l.fn.places

abbrev pub decreases-loop-at : goal.decreases-loop-at
decreases-loop-at l = l.at
