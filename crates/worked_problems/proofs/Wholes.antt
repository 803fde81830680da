-- The order of whole numbers among the rational ones.
use Rattle.std.proofs.Common.{arith}
use Rattle.std.specs.Prelude.{ℤ, pos, ◌*ℤ◌, ◌≤ℤ◌, ◌<ℤ◌}
use Rattle.std.proofs.lemmas.Int.{ints}
use Rattle.rational.specs.Rational.{Rational, whole, ◌≤ℚ◌, ◌<ℚ◌}
use Rattle.rational.proofs.Laws as Q

pub less : (m n : ℤ) → m <ℤ n → whole m <ℚ whole n
less m n h = record { cross = parts m n h }
  where
    parts : (m n : ℤ) → m <ℤ n → (m *ℤ pos 1) <ℤ (n *ℤ pos 1)
    parts m n h = omega (arith, ints)

pub at_most : (m n : ℤ) → m ≤ℤ n → whole m ≤ℚ whole n
at_most m n h = record { cross = parts m n h }
  where
    parts : (m n : ℤ) → m ≤ℤ n → (m *ℤ pos 1) ≤ℤ (n *ℤ pos 1)
    parts m n h = omega (arith, ints)

pub irreflexive : (a : Rational) → ¬ (a <ℚ a)
irreflexive a h = Q.lt-not-le a a h (Q.le_refl a)
