-- Whole numbers among the rational ones.
use Rattle.std.proofs.Common.{◌≡◌, ℕ, refl, arith}
use Rattle.std.specs.Prelude.{ℤ, pos, ◌+ℤ◌, ◌*ℤ◌, neg_ℤ, ◌≤ℤ◌}
use Rattle.std.proofs.lemmas.Int.{ints}
use Rattle.integer.proofs.Laws as Z
use Rattle.rational.specs.Rational.{◌≤ℚ◌, ◌+ℚ◌, ◌*ℚ◌, neg_ℚ, zero_ℚ, whole}
use Rattle.rational.proofs.Value.{same_parts, value_same, value_self, value_add, value_mul}

pub neg_whole : (t : ℤ) → whole (neg_ℤ t) ≡ neg_ℚ (whole t)
unfolding neg_ℚ
neg_whole t = same_parts _ _ refl refl

pub whole-add : (n m : ℤ) → whole n +ℚ whole m ≡ whole (n +ℤ m)
whole-add n m = value_same _ _ _ _ _ _ (value_add _ _ _ _ _ _ (value_self (whole n)) (value_self (whole m))) (value_self (whole (n +ℤ m))) (simp Z.units)

pub whole-mul : (n m : ℤ) → whole n *ℚ whole m ≡ whole (n *ℤ m)
whole-mul n m = value_same _ _ _ _ _ _ (value_mul _ _ _ _ _ _ (value_self (whole n)) (value_self (whole m))) (value_self (whole (n *ℤ m))) (simp Z.units)

pub zero-le_whole : (n : ℕ) → zero_ℚ ≤ℚ whole (pos n)
zero-le_whole n = record { cross = parts n }
  where
    parts : (n : ℕ) → (pos 0 *ℤ pos 1) ≤ℤ (pos n *ℤ pos 1)
    parts n = omega (arith, ints)
