use Rattle.std.proofs.Common.{◌≡◌, ◌<◌, ◌≤◌, ℕ, length}
use Rattle.rational.specs.Rational.{◌+ℚ◌, ◌*ℚ◌}
use Rattle.milp.specs.Form.{number_at}
use Rattle.dictionary.specs.Values.{direction_of}
use Rattle.dictionary.proofs.moves.move_variables.Given as goal

abbrev pub invariant-loop-v : goal.invariant-loop-v
invariant-loop-v l =
    (length l.values ≡ length l.initial.values)
    × ((m : ℕ) → m < l.v → number_at l.values m ≡ number_at l.initial.values m +ℚ l.by *ℚ direction_of l.dictionary l.q m)
    × ((m : ℕ) → l.v ≤ m → number_at l.values m ≡ number_at l.initial.values m)
