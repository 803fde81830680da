use Rattle.std.proofs.Common.{length}
use Rattle.infeasible_subset.specs.Underway.{IsUnderway}
use Rattle.infeasible_subset.proofs.turns.run.Given as goal

abbrev pub invariant-loop-alloc : goal.invariant-loop-alloc
invariant-loop-alloc l = IsUnderway l.problem l.underway.done l.underway.left l.underway.weights

abbrev pub decreases-loop-alloc : goal.decreases-loop-alloc
decreases-loop-alloc l = length l.underway.left
