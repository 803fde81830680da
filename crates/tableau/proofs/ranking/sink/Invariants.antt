use Rattle.std.proofs.Common.{◌≡◌, ◌-◌, length}
use Rattle.tableau.proofs.ranking.sink.Given as goal

abbrev pub invariant-loop-at : goal.invariant-loop-at
invariant-loop-at l = length l.heap ≡ length l.fn.heap

abbrev pub decreases-loop-at : goal.decreases-loop-at
decreases-loop-at l = length l.heap - l.at
