use Rattle.std.proofs.Common.{◌≡◌, ◌<◌, ◌≤◌, ℕ, length}
use Rattle.rational.specs.Rational.{◌*ℚ◌}
use Rattle.milp.specs.Form.{number_at}
use Rattle.simplex.proofs.ray.scale.Given as goal

abbrev pub invariant-loop-i : goal.invariant-loop-i
invariant-loop-i l =
    (length l.numbers ≡ length l.initial.numbers)
    × ((m : ℕ) → m < l.i → number_at l.numbers m ≡ number_at l.initial.numbers m *ℚ l.by)
    × ((m : ℕ) → l.i ≤ m → number_at l.numbers m ≡ number_at l.initial.numbers m)
