use Rattle.std.proofs.Common.{◌≡◌, cond, slice_get}
use Rattle.rational.specs.Rational.{zero_ℚ}
use Rattle.milp.specs.Form.{number_at}
use Rattle.verdicts.specs.Proves.{is_integer}
use Rattle.basis.specs.Weights.{numbers_from}
use Rattle.simplex.proofs.ray.to_be_whole.Given as goal

abbrev pub invariant-loop-j : goal.invariant-loop-j
invariant-loop-j l = l.integers.items ≡ numbers_from 0 l.j (λ k. cond (is_integer (slice_get l.columns k)) (number_at l.numbers k) zero_ℚ)
