-- Order and signs of rational numbers.
use Rattle.std.proofs.Common.{◌≡◌, ◌∙◌, refl, sym, ap, arith, Bool, true, false, ◌⊎◌, inl, inr}
use Rattle.std.specs.Prelude.{ℤ, pos, ◌*ℤ◌, ◌<ℤ◌}
use Rattle.std.proofs.lemmas.Int.{ints}
use Rattle.rational.specs.Rational.{Rational, ◌≤ℚ◌, ◌<ℚ◌, ◌+ℚ◌, ◌-ℚ◌, ◌*ℚ◌, neg_ℚ, inv_ℚ, zero_ℚ, one_ℚ}
use Rattle.rational.specs.Compare.{is_at_most}
use Rattle.rational.proofs.Laws as Q
use Rattle.rational.proofs.Laws.{field, field_units, signs, less_true, less_false, at_most_true, at_most_false}
use Rattle.verdicts.proofs.Laws.{le_by, neg_le, neg-zero}

pub le_or_less : (a b : Rational) → (a ≤ℚ b) ⊎ (b <ℚ a)
le_or_less a b = go (is_at_most a b) refl
  where
    go : (t : Bool) → is_at_most a b ≡ t → (a ≤ℚ b) ⊎ (b <ℚ a)
    go true e = inl (at_most_true a b e)
    go false e = inr (at_most_false a b e)

pub le_or_le : (a b : Rational) → (a ≤ℚ b) ⊎ (b ≤ℚ a)
le_or_le a b = elim (le_or_less a b) [
  | inl k ↦ inl k
  | inr k ↦ inr (Q.le_of_lt b a k)
]

pub not_less : (a b : Rational) → ¬ (a <ℚ b) → b ≤ℚ a
not_less a b h = elim (le_or_less b a) [
  | inl k ↦ k
  | inr k ↦ absurd (h k)
]

pub apart : (a b : Rational) → b ≡ a +ℚ (b -ℚ a)
apart a b = sym (ap (λ z. a +ℚ z) (Q.add_comm b (neg_ℚ a)) ∙ Q.cancel_left a b)

pub le_cancel : (a b c : Rational) → a +ℚ b ≤ℚ a +ℚ c → b ≤ℚ c
le_cancel a b c h = le_by _ _ _ _ (sym (Q.cancel_right a b)) (sym (Q.cancel_right a c)) (Q.add-le-add _ _ _ _ (Q.le_refl (neg_ℚ a)) h)

pub lt_by : {a b x y : Rational} → a ≡ x → b ≡ y → x <ℚ y → a <ℚ b
lt_by e f h = rw (e, f) h

pub neg_less : {a b : Rational} → a <ℚ b → neg_ℚ b <ℚ neg_ℚ a
neg_less {a = a} {b = b} h = elim (le_or_less (neg_ℚ a) (neg_ℚ b)) [
  | inl k ↦ absurd (Q.lt-not-le a b h (le_by _ _ _ _ (sym (Q.neg_neg b)) (sym (Q.neg_neg a)) (neg_le _ _ k)))
  | inr k ↦ k
]

-- the difference of numbers in order
pub difference : (a b : Rational) → a ≤ℚ b → zero_ℚ ≤ℚ b -ℚ a
difference a b h = le_by _ _ _ _ (sym (Q.add-neg a)) refl (Q.add-le-add _ _ _ _ h (Q.le_refl (neg_ℚ a)))

pub difference_less : (a b : Rational) → a <ℚ b → zero_ℚ <ℚ b -ℚ a
difference_less a b h = elim (le_or_less (b -ℚ a) zero_ℚ) [
  | inl k ↦ absurd (Q.lt-not-le a b h (le_by _ _ _ _ (apart a b) (sym (Q.add-zero a)) (Q.add-le-add _ _ _ _ (Q.le_refl a) k)))
  | inr k ↦ k
]

pub some_above : (a : Rational) → zero_ℚ <ℚ a → ¬ (a.numerator ≡ pos 0)
some_above a h e = parts a.numerator (pos a.denominator) h.cross e
  where
    parts : (n d : ℤ) → (pos 0 *ℤ d) <ℤ (n *ℤ pos 1) → ¬ (n ≡ pos 0)
    parts n d h e = omega (arith, ints)

-- a product of numbers above 0 is above 0
pub product_above : (k d : Rational) → zero_ℚ <ℚ k → zero_ℚ <ℚ d → k *ℚ d ≤ℚ zero_ℚ → ⊥
product_above k d h g low =
    let high : zero_ℚ ≤ℚ k *ℚ d = le_by _ _ _ _ (sym (Q.mul-zero k)) refl (Q.mul-le-mul k zero_ℚ d (Q.le_of_lt _ _ h) (Q.le_of_lt _ _ g)) in
    let none : k *ℚ d ≡ zero_ℚ = Q.le_antisymm _ _ low high in
    let same : d ≡ zero_ℚ = sym (Q.inv_left k d (some_above k h)) ∙ swap k (inv_ℚ k) d ∙ ap (λ y. inv_ℚ k *ℚ y) none ∙ Q.mul-zero (inv_ℚ k) in
    Q.lt-not-le zero_ℚ d g (le_by _ _ _ _ same refl (Q.le_refl zero_ℚ))
  where
    swap : (x y z : Rational) → x *ℚ (y *ℚ z) ≡ y *ℚ (x *ℚ z)
    swap x y z = simp field

-- the inverse of a number above 0
pub inverse_above : (d : Rational) → zero_ℚ <ℚ d → zero_ℚ ≤ℚ inv_ℚ d
inverse_above d h = elim (le_or_less zero_ℚ (inv_ℚ d)) [
  | inl k ↦ k
  | inr k ↦ absurd (product_above d (zero_ℚ -ℚ inv_ℚ d) h (difference_less _ _ k) (le_by _ _ _ _ (turned d (inv_ℚ d) ∙ ap neg_ℚ (Q.mul-inv d (some_above d h))) (sym neg-zero) (neg_le zero_ℚ one_ℚ (Q.zero-le_whole 1))))
]
  where
    turned : (a b : Rational) → a *ℚ (zero_ℚ -ℚ b) ≡ neg_ℚ (a *ℚ b)
    turned a b = simp (field_units, signs)
