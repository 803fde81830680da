-- Order and signs of rational numbers.
use Rattle.std.proofs.Common.{◌≡◌, refl, ap, arith, ◌⊎◌, inl, inr, ◌==◌, Bool, true, false, cond, [], ◌∷◌}
use Rattle.std.specs.Prelude.{ℤ, pos, unsigned_abs, ◌*ℤ◌, ◌<ℤ◌}
use Rattle.std.proofs.lemmas.Int.{ints, by_lt_z}
use Rattle.std.proofs.lemmas.Bool.Decides.{nat_tests}
use Rattle.rational.specs.Rational.{Rational, neg_ℚ, zero_ℚ, ◌<ℚ◌, ◌≤ℚ◌}
use Rattle.rational.proofs.Laws as Q
use Rattle.rational.proofs.Laws.{value_same, value_self}
use Rattle.rational.proofs.Laws.{less_true, less_false, at_most_false}
use Rattle.verdicts.proofs.Laws.{neg_le, neg-zero}
use Rattle.basis.specs.Weights.{nonzero}

pub le_or_less : (a b : Rational) → (a ≤ℚ b) ⊎ (b <ℚ a)
le_or_less a b = by_lt_z (b.numerator *ℤ pos a.denominator) (a.numerator *ℤ pos b.denominator) (λ h. inr (record { cross = h })) (λ h. inl (record { cross = h }))

pub not_less : (a b : Rational) → ¬ (a <ℚ b) → b ≤ℚ a
not_less a b h = elim (le_or_less b a) [
  | inl k ↦ k
  | inr k ↦ absurd (h k)
]

pub not_le : (a b : Rational) → ¬ (a ≤ℚ b) → b <ℚ a
not_le a b h = elim (le_or_less a b) [
  | inl k ↦ absurd (h k)
  | inr k ↦ k
]

pub neg_lt : (a b : Rational) → a <ℚ b → neg_ℚ b <ℚ neg_ℚ a
neg_lt a b h = not_le (neg_ℚ a) (neg_ℚ b) (λ k. Q.lt-not-le a b h (rw (Q.neg_neg a, Q.neg_neg b) at (neg_le (neg_ℚ a) (neg_ℚ b) k)))

pub neg_above : (a : Rational) → zero_ℚ <ℚ a → neg_ℚ a <ℚ zero_ℚ
neg_above a h = rw neg-zero at (neg_lt zero_ℚ a h)

pub neg_below : (a : Rational) → a <ℚ zero_ℚ → zero_ℚ <ℚ neg_ℚ a
neg_below a h = rw neg-zero at (neg_lt a zero_ℚ h)

-- ---- numbers that are not 0

pub above_some : (a : Rational) → zero_ℚ <ℚ a → ¬ (a.numerator ≡ pos 0)
above_some a h e = parts a.numerator (pos a.denominator) h.cross e
  where
    parts : (n d : ℤ) → (pos 0 *ℤ d) <ℤ (n *ℤ pos 1) → ¬ (n ≡ pos 0)
    parts n d h e = omega (arith, ints)

pub below_some : (a : Rational) → a <ℚ zero_ℚ → ¬ (a.numerator ≡ pos 0)
below_some a h e = parts a.numerator (pos a.denominator) h.cross e
  where
    parts : (n d : ℤ) → (n *ℤ pos 1) <ℤ (pos 0 *ℤ d) → ¬ (n ≡ pos 0)
    parts n d h e = omega (arith, ints)

pub zero_numerator : (a : Rational) → a.numerator ≡ pos 0 → a ≡ zero_ℚ
zero_numerator a e = value_same _ _ _ _ _ _ (value_self a) (value_self zero_ℚ) (rw e (omega (arith, ints)))

-- a number below, at or above 0
pub signs_of : (a : Rational) → ¬ (a ≡ zero_ℚ) → (zero_ℚ <ℚ a) ⊎ (a <ℚ zero_ℚ)
signs_of a n = elim (le_or_less a zero_ℚ) [
  | inl low ↦ elim (le_or_less zero_ℚ a) [
    | inl high ↦ absurd (n (Q.le_antisymm a zero_ℚ low high))
    | inr below ↦ inr below
  ]
  | inr above ↦ inl above
]

-- ---- a number as a weight

pub nonzero_cases : {X : Type 0} (a : Rational) → (nonzero a ≡ [] → a ≡ zero_ℚ → X) → (nonzero a ≡ a ∷ [] → ¬ (a ≡ zero_ℚ) → X) → X
nonzero_cases {X = X} a none some = go (unsigned_abs a.numerator == 0) refl
  where
    num_zero : (n : ℤ) → (unsigned_abs n == 0) ≡ true → n ≡ pos 0
    num_zero n e = let k : unsigned_abs n ≡ 0 = grind (arith, nat_tests) in omega (arith, ints)

    num_some : (n : ℤ) → (unsigned_abs n == 0) ≡ false → ¬ (n ≡ pos 0)
    num_some n e h = let k : ¬ (unsigned_abs n ≡ 0) = grind (arith, nat_tests) in omega (arith, ints)

    go : (t : Bool) → (unsigned_abs a.numerator == 0) ≡ t → X
    go true e = none (ap (λ t. cond t [] (a ∷ [])) e) (zero_numerator a (num_zero a.numerator e))
    go false e = some (ap (λ t. cond t [] (a ∷ [])) e) (λ h. num_some a.numerator e (ap (λ (u : Rational). u.numerator) h))
