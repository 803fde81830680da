-- Negatives in the order, and whole numbers among the rational ones.
use Rattle.std.proofs.Common.{◌≡◌, ◌∙◌, refl, sym, ap, ◌⊎◌}
use Rattle.std.specs.Prelude.{ℤ, pos, negsuc, ◌+ℤ◌}
use Rattle.rational.specs.Rational.{Rational, ◌≤ℚ◌, ◌+ℚ◌, ◌*ℚ◌, neg_ℚ, zero_ℚ, one_ℚ, whole}
use Rattle.rational.proofs.Laws as Q
use Rattle.rational.proofs.Laws.{field, field_units, signs, same_parts, neg_whole, whole-add, whole-mul}
use Rattle.milp.specs.Points.{IsWhole}

pub le_by : (a b x y : Rational) → a ≡ x → b ≡ y → x ≤ℚ y → a ≤ℚ b
le_by a b x y e f h = rw (e, f) h

pub neg_le : (a b : Rational) → a ≤ℚ b → neg_ℚ b ≤ℚ neg_ℚ a
neg_le a b h =
    le_by _ _ _ _ (sym (Q.cancel_left a (neg_ℚ b))) (sym (Q.cancel_left b (neg_ℚ a)) ∙ ap (λ y. b +ℚ y) (Q.add_comm (neg_ℚ b) (neg_ℚ a)))
    (Q.add-le-add a b _ _ h (Q.le_refl (neg_ℚ a +ℚ neg_ℚ b)))

pub neg-zero : neg_ℚ zero_ℚ ≡ zero_ℚ
neg-zero = sym (Q.zero-add (neg_ℚ zero_ℚ)) ∙ Q.add-neg zero_ℚ

-- a product with a number that is at most 0 turns the order
pub mul-le-mul_neg : (k a b : Rational) → k ≤ℚ zero_ℚ → a ≤ℚ b → k *ℚ b ≤ℚ k *ℚ a
mul-le-mul_neg k a b h g =
    let n : zero_ℚ ≤ℚ neg_ℚ k = le_by _ _ _ _ (sym neg-zero) refl (neg_le k zero_ℚ h) in
    let m = Q.mul-le-mul (neg_ℚ k) a b n g in
    le_by _ _ _ _ (back k b) (back k a) (neg_le _ _ m)
  where
    back : (k c : Rational) → k *ℚ c ≡ neg_ℚ (neg_ℚ k *ℚ c)
    back k c = sym (ap neg_ℚ (Q.neg_mul k c) ∙ Q.neg_neg (k *ℚ c))

pub minus_one-mul : (a : Rational) → whole (negsuc 0) *ℚ a ≡ neg_ℚ a
minus_one-mul a = ap (λ m. m *ℚ a) (neg_whole (pos 1)) ∙ Q.neg_mul one_ℚ a ∙ ap neg_ℚ (Q.one-mul a)

-- ---- whole numbers

pub whole-numerator : (a : Rational) → IsWhole a → whole a.numerator ≡ a
whole-numerator a h = same_parts _ _ refl (sym h)

pub IsWhole-add : (a b : Rational) → IsWhole a → IsWhole b → IsWhole (a +ℚ b)
IsWhole-add a b h k = sym (ap (λ (q : Rational). q.denominator) (sym (whole-add a.numerator b.numerator) ∙ ap (λ x. x +ℚ whole b.numerator) (whole-numerator a h) ∙ ap (λ y. a +ℚ y) (whole-numerator b k)))

pub IsWhole-mul : (a b : Rational) → IsWhole a → IsWhole b → IsWhole (a *ℚ b)
IsWhole-mul a b h k = sym (ap (λ (q : Rational). q.denominator) (sym (whole-mul a.numerator b.numerator) ∙ ap (λ x. x *ℚ whole b.numerator) (whole-numerator a h) ∙ ap (λ y. a *ℚ y) (whole-numerator b k)))

-- a whole number is on one side of the split at t
pub sides : (a : Rational) (t : ℤ) → IsWhole a → (a ≤ℚ whole t) ⊎ (whole (t +ℤ pos 1) ≤ℚ a)
sides a t h = rw (whole-numerator a h) at (Q.whole_sides a.numerator t)
