-- The whole is what is passed, then the rest.
use Rattle.std.proofs.Common.{length, ◌-◌, ◌≡◌, ◌≤◌, ◌+◌, drop}
use Rattle.gmpl_lexer.specs.Strings.{comment_length}
use Rattle.gmpl_lexer.proofs.strings.comment_length.Given as goal

abbrev pub invariant-loop-size : goal.invariant-loop-size
invariant-loop-size l = (comment_length l.text ≡ l.size + comment_length (drop l.size l.text)) × (l.size ≤ length l.text)

abbrev pub decreases-loop-size : goal.decreases-loop-size
decreases-loop-size l = length l.text - l.size
