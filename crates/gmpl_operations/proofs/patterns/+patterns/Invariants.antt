-- The components that are left.
use Rattle.std.proofs.Common.{ℕ, ◌+◌, ◌*◌, length}
use Rattle.gmpl_operations.proofs.patterns.+patterns.Given as goal

abbrev pub decreases-bound : goal.decreases-bound
decreases-bound l = 2 * length l.pattern.now

abbrev pub decreases-component : goal.decreases-component
decreases-component l = 2 * length l.parts.now + 1
