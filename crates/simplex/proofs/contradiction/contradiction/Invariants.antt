use Rattle.std.proofs.Common.{◌<◌, ℕ}
use Rattle.simplex.specs.Crossed.{IsInOrder}
use Rattle.simplex.proofs.contradiction.contradiction.Given as goal

abbrev pub invariant-loop-v : goal.invariant-loop-v
invariant-loop-v l = (k : ℕ) → k < l.v → IsInOrder l.system k
