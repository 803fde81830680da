-- The whole is what is passed, then the rest.
use Rattle.std.proofs.Common.{length, ◌-◌, ◌≡◌, ◌≤◌, ◌+◌, drop}
use Rattle.gmpl_lexer.specs.Strings.{string_length}
use Rattle.gmpl_lexer.specs.Steps.{string_step}
use Rattle.gmpl_lexer.proofs.strings.string_length.Given as goal

abbrev pub invariant-loop-step : goal.invariant-loop-step
invariant-loop-step l = (string_length l.quote l.text ≡ l.size + string_length l.quote (drop l.size l.text)) × ((l.step ≡ string_step l.quote (drop l.size l.text)) × (l.size + l.step ≤ length l.text))

abbrev pub decreases-loop-step : goal.decreases-loop-step
decreases-loop-step l = length l.text - l.size
