-- What is passed leaves the answer as it is.
use Rattle.std.proofs.Common.{length, ◌≡◌, ◌≤◌, ◌+◌}
use Rattle.gmpl_words.specs.Braces.{behind_braces}
use Rattle.gmpl_words.proofs.braces.behind_braces.Given as goal

abbrev pub invariant-loop-rest : goal.invariant-loop-rest
invariant-loop-rest l = (behind_braces 0 l.fn.tokens ≡ behind_braces l.depth l.rest) × (l.depth + length l.rest ≤ length l.fn.tokens)

abbrev pub decreases-loop-rest : goal.decreases-loop-rest
decreases-loop-rest l = length l.rest
