-- The part of a number above its floor, and signs of inverses and products.
use Rattle.std.proofs.Common.{◌≡◌, ◌∙◌, ℕ, suc, ◌*◌, ◌+◌, ◌/◌, ◌<◌, ◌≤◌, refl, sym, ap, arith, div-add-mod', mod-lt}
use Rattle.std.specs.Prelude.{ℤ, pos, negsuc, ◌+ℤ◌, ◌*ℤ◌, neg_ℤ, ◌≤ℤ◌, ◌<ℤ◌}
use Rattle.std.specs.Int.{int_div_euclid}
use Rattle.std.proofs.lemmas.Int.{ints}
use Rattle.integer.proofs.Laws as Z
use Rattle.rational.specs.Rational.{Rational, whole, zero_ℚ, one_ℚ, neg_ℚ, inv_ℚ, floor_ℚ, ◌+ℚ◌, ◌-ℚ◌, ◌*ℚ◌, ◌<ℚ◌, ◌≤ℚ◌}
use Rattle.rational.proofs.Laws as Q
use Rattle.rational.proofs.Laws.{field, field_units, signs, same_parts}
use Rattle.milp.specs.Points.{IsWhole}
use Rattle.verdicts.proofs.Laws.{le_by, neg_le, neg-zero, minus_one-mul}
use Rattle.basis.proofs.Laws.{not_le, above_some}
use Rattle.gomory.specs.Cuts.{fractional_part}

under : (n : ℤ) (d : ℕ) → 0 < d → (int_div_euclid n (pos d) *ℤ pos d) ≤ℤ n
under (pos n) d h = let e : n / d * d ≤ n = omega (arith, div-add-mod' n d) in omega (arith, ints)
under (negsuc n) d h =
    let e : suc n ≤ suc (n / d) * d = omega (arith, div-add-mod' n d, mod-lt n h) in
    let f : neg_ℤ (pos (suc (n / d) * d)) ≤ℤ negsuc n = omega (arith, ints) in f

above : (n : ℤ) (d : ℕ) → 0 < d → n <ℤ ((int_div_euclid n (pos d) +ℤ pos 1) *ℤ pos d)
above (pos n) d h = let e : n < (n / d + 1) * d = omega (arith, div-add-mod' n d, mod-lt n h) in omega (arith, ints)
above (negsuc n) d h =
    let e : n / d * d ≤ n = omega (arith, div-add-mod' n d) in
    let k : (negsuc (n / d) +ℤ pos 1) ≡ neg_ℤ (pos (n / d)) = omega (arith, ints) in
    let f : negsuc n <ℤ neg_ℤ (pos (n / d * d)) = omega (arith, ints) in
    rw (k, Z.neg_mul) f

pub floor_le : (a : Rational) → whole (floor_ℚ a) ≤ℚ a
floor_le a = record { cross = turned (under a.numerator a.denominator (a.lowest.positive)) }
  where
    turned : (int_div_euclid a.numerator (pos a.denominator) *ℤ pos a.denominator) ≤ℤ a.numerator → (floor_ℚ a *ℤ pos a.denominator) ≤ℤ (a.numerator *ℤ pos 1)
    turned h = omega (arith, ints)

pub lt_floor : (a : Rational) → a <ℚ whole (floor_ℚ a +ℤ pos 1)
lt_floor a = record { cross = turned (above a.numerator a.denominator (a.lowest.positive)) }
  where
    turned : a.numerator <ℤ ((int_div_euclid a.numerator (pos a.denominator) +ℤ pos 1) *ℤ pos a.denominator) → (a.numerator *ℤ pos 1) <ℤ ((floor_ℚ a +ℤ pos 1) *ℤ pos a.denominator)
    turned h = omega (arith, ints)

pub lt_or : (a b : Rational) → ¬ (a ≡ b) → a ≤ℚ b → a <ℚ b
lt_or a b n h = not_le b a (λ k. n (Q.le_antisymm a b h k))

-- a <= b shifts by c
pub shift_le : (a b c : Rational) → a ≤ℚ b → a +ℚ c ≤ℚ b +ℚ c
shift_le a b c h = Q.add-le-add a b c c h (Q.le_refl c)

pub part_from : (a : Rational) → zero_ℚ ≤ℚ fractional_part a
part_from a = le_by zero_ℚ (fractional_part a) _ _ (sym (Q.add-neg (whole (floor_ℚ a)))) refl (shift_le _ _ (neg_ℚ (whole (floor_ℚ a))) (floor_le a))

pub part_below : (a : Rational) → fractional_part a ≤ℚ one_ℚ
part_below a = le_by (fractional_part a) one_ℚ _ _ refl (one (whole (floor_ℚ a)) ∙ ap (λ t. t -ℚ whole (floor_ℚ a)) (Q.whole-add (floor_ℚ a) (pos 1))) (shift_le _ _ (neg_ℚ (whole (floor_ℚ a))) (Q.le_of_lt _ _ (lt_floor a)))
  where
    one : (f : Rational) → one_ℚ ≡ (f +ℚ one_ℚ) -ℚ f
    one f = simp (field, signs, field_units)

pub part_lt : (a : Rational) → fractional_part a <ℚ one_ℚ
part_lt a = not_le one_ℚ (fractional_part a) (λ h. Q.lt-not-le a _ (lt_floor a) (le_by _ a _ _ (sym (Q.whole-add (floor_ℚ a) (pos 1))) (back a (whole (floor_ℚ a))) (turn h)))
  where
    back : (a f : Rational) → a ≡ f +ℚ (a -ℚ f)
    back a f = simp (field, signs, field_units)

    turn : one_ℚ ≤ℚ fractional_part a → whole (floor_ℚ a) +ℚ one_ℚ ≤ℚ whole (floor_ℚ a) +ℚ fractional_part a
    turn h = Q.add-le-add _ _ _ _ (Q.le_refl _) h

whole_if_no_part : (a : Rational) → zero_ℚ ≡ fractional_part a → IsWhole a
whole_if_no_part a e = ap (λ (q : Rational). q.denominator) (back a (whole (floor_ℚ a)) ∙ ap (λ t. whole (floor_ℚ a) +ℚ t) (sym e) ∙ Q.add-zero _)
  where
    back : (a f : Rational) → a ≡ f +ℚ (a -ℚ f)
    back a f = simp (field, signs, field_units)

pub part_above : (a : Rational) → ¬ (IsWhole a) → zero_ℚ <ℚ fractional_part a
part_above a n = lt_or zero_ℚ (fractional_part a) (λ e. n (whole_if_no_part a e)) (part_from a)

-- ---- inverses

pub one_above : zero_ℚ <ℚ one_ℚ
one_above = record { cross = parts }
  where
    parts : (pos 0 *ℤ pos 1) <ℤ (pos 1 *ℤ pos 1)
    parts = omega (arith, ints)

pub inverse : (a : Rational) → zero_ℚ <ℚ a → a *ℚ inv_ℚ a ≡ one_ℚ
inverse a h = Q.mul-inv a (above_some a h)

pub inverse_from : (a : Rational) → zero_ℚ <ℚ a → zero_ℚ ≤ℚ inv_ℚ a
inverse_from a h = Q.le_of_lt _ _ (not_le (inv_ℚ a) zero_ℚ (λ k. Q.lt-not-le _ _ one_above (le_by one_ℚ zero_ℚ _ _ (sym (inverse a h)) (sym (Q.mul-zero a)) (Q.mul-le-mul a _ _ (Q.le_of_lt _ _ h) k))))

pub product_from : (a b : Rational) → zero_ℚ ≤ℚ a → zero_ℚ ≤ℚ b → zero_ℚ ≤ℚ a *ℚ b
product_from a b h k = le_by zero_ℚ (a *ℚ b) _ _ (sym (Q.mul-zero a)) refl (Q.mul-le-mul a _ _ h k)

pub difference_from : (a b : Rational) → b ≤ℚ a → zero_ℚ ≤ℚ a -ℚ b
difference_from a b h = le_by zero_ℚ (a -ℚ b) _ _ (sym (Q.add-neg b)) refl (shift_le b a (neg_ℚ b) h)

pub difference_above : (a b : Rational) → b <ℚ a → zero_ℚ <ℚ a -ℚ b
difference_above a b h = lt_or zero_ℚ (a -ℚ b) (λ e. Q.lt-not-le b a h (le_by a b _ _ (back a b ∙ ap (λ t. t +ℚ b) (sym e)) (sym (Q.zero-add b)) (Q.le_refl _))) (difference_from a b (Q.le_of_lt _ _ h))
  where
    back : (a b : Rational) → a ≡ (a -ℚ b) +ℚ b
    back a b = simp (field, signs, field_units)

pub sum_from : (a b : Rational) → zero_ℚ ≤ℚ a → zero_ℚ ≤ℚ b → zero_ℚ ≤ℚ a +ℚ b
sum_from a b h k = le_by zero_ℚ (a +ℚ b) _ _ (sym (Q.zero-add zero_ℚ)) refl (Q.add-le-add _ _ _ _ h k)

pub neg_from : (a : Rational) → a ≤ℚ zero_ℚ → zero_ℚ ≤ℚ neg_ℚ a
neg_from a h = le_by zero_ℚ (neg_ℚ a) _ _ (sym neg-zero) refl (neg_le a zero_ℚ h)

-- ---- whole numbers

whole-numerator : (a : Rational) → IsWhole a → whole a.numerator ≡ a
whole-numerator a h = same_parts _ _ refl (sym h)

pub IsWhole-add : (a b : Rational) → IsWhole a → IsWhole b → IsWhole (a +ℚ b)
IsWhole-add a b h k = sym (ap (λ (q : Rational). q.denominator) (sym (Q.whole-add a.numerator b.numerator) ∙ ap (λ x. x +ℚ whole b.numerator) (whole-numerator a h) ∙ ap (λ y. a +ℚ y) (whole-numerator b k)))

pub IsWhole-mul : (a b : Rational) → IsWhole a → IsWhole b → IsWhole (a *ℚ b)
IsWhole-mul a b h k = sym (ap (λ (q : Rational). q.denominator) (sym (Q.whole-mul a.numerator b.numerator) ∙ ap (λ x. x *ℚ whole b.numerator) (whole-numerator a h) ∙ ap (λ y. a *ℚ y) (whole-numerator b k)))

-- a number whose part above a whole number is f
pub floor_below : (v f : Rational) → IsWhole (v -ℚ f) → zero_ℚ ≤ℚ f → f <ℚ one_ℚ → whole (floor_ℚ v) ≡ v -ℚ f
floor_below v f w from under_one = ap whole (same (floor_ℚ v) ((v -ℚ f).numerator) floor_under under_floor) ∙ whole-numerator (v -ℚ f) w
  where
    back : (v f : Rational) → v ≡ (v -ℚ f) +ℚ f
    back v f = simp (field, signs, field_units)

    upper : whole ((v -ℚ f).numerator +ℤ pos 1) ≡ (v -ℚ f) +ℚ one_ℚ
    upper = sym (Q.whole-add ((v -ℚ f).numerator) (pos 1)) ∙ ap (λ t. t +ℚ one_ℚ) (whole-numerator (v -ℚ f) w)

    lower_le : whole ((v -ℚ f).numerator) ≤ℚ v
    lower_le = le_by _ _ _ _ (whole-numerator (v -ℚ f) w ∙ sym (Q.add-zero (v -ℚ f))) (back v f) (Q.add-le-add _ _ _ _ (Q.le_refl (v -ℚ f)) from)

    less_by : (c a b : Rational) → a ≡ neg_ℚ c +ℚ (c +ℚ a)
    less_by c a b = sym (sym (Q.add_assoc (neg_ℚ c) c a) ∙ ap (λ t. t +ℚ a) (Q.add_comm (neg_ℚ c) c ∙ Q.add-neg c) ∙ Q.zero-add a)

    never : ¬ ((v -ℚ f) +ℚ one_ℚ ≤ℚ v)
    never k = Q.lt-not-le f one_ℚ under_one (le_by _ _ _ _ (less_by (v -ℚ f) one_ℚ f) (less_by (v -ℚ f) f f) (Q.add-le-add _ _ _ _ (Q.le_refl (neg_ℚ (v -ℚ f))) (le_by _ _ _ _ refl (sym (back v f)) k)))

    floor_under : whole (floor_ℚ v) <ℚ whole ((v -ℚ f).numerator +ℤ pos 1)
    floor_under = not_le _ _ (λ k. never (Q.le_trans _ _ _ (le_by _ _ _ _ (sym upper) refl k) (floor_le v)))

    under_floor : whole ((v -ℚ f).numerator) <ℚ whole (floor_ℚ v +ℤ pos 1)
    under_floor = not_le _ _ (λ k. Q.lt-not-le _ _ (lt_floor v) (Q.le_trans _ _ _ k lower_le))

    same : (m n : ℤ) → whole m <ℚ whole (n +ℤ pos 1) → whole n <ℚ whole (m +ℤ pos 1) → m ≡ n
    same m n h k = between m n h.cross k.cross
      where
        between : (m n : ℤ) → (m *ℤ pos 1) <ℤ ((n +ℤ pos 1) *ℤ pos 1) → (n *ℤ pos 1) <ℤ ((m +ℤ pos 1) *ℤ pos 1) → m ≡ n
        between m n h k = omega (arith, ints)

-- ---- products with 0, 1 and -1

pub one_mul : (a : Rational) → one_ℚ *ℚ a ≡ a
one_mul a = Q.one-mul a

pub zero_mul : (a : Rational) → zero_ℚ *ℚ a ≡ zero_ℚ
zero_mul a = Q.zero-mul a

pub minus_mul : (a : Rational) → whole (negsuc 0) *ℚ a ≡ neg_ℚ a
minus_mul a = minus_one-mul a

pub add_zero : (a : Rational) → a +ℚ zero_ℚ ≡ a
add_zero a = Q.add-zero a
