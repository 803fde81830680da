-- Signs of the terms of a form, where each variable is moved as far as it may or against where it can go.
use Rattle.std.proofs.Common.{◌≡◌, ◌∙◌, ℕ, zero, suc, ◌<◌, List, sym, ap, arith, inl, inr}
use Rattle.std.specs.Prelude.{pos, ◌*ℤ◌, ◌<ℤ◌}
use Rattle.std.proofs.lemmas.Int.{ints}
use Rattle.rational.specs.Rational.{Rational, zero_ℚ, one_ℚ, neg_ℚ, inv_ℚ, ◌+ℚ◌, ◌-ℚ◌, ◌*ℚ◌, ◌≤ℚ◌, ◌<ℚ◌}
use Rattle.milp.specs.Form.{Entry, value_at}
use Rattle.verdicts.specs.WeightedSums.{coefficient_of, sum_below, AllBelow}
use Rattle.verdicts.proofs.Laws.{mul-le-mul_neg, neg-zero, neg_le, value_by_column}
use Rattle.rational.proofs.Laws as Q
use Rattle.basis.specs.System.{System, CanRise, CanFall}
use Rattle.basis.specs.Bland.{CanRaise}
use Rattle.basis.proofs.Laws.{above_some, le_or_less, neg_below, not_le, not_less}

-- ---- differences

pub irreflexive : (a : Rational) → ¬ (a <ℚ a)
irreflexive a h = Q.lt-not-le a a h (Q.le_refl a)

pub lt_le : (a b c : Rational) → a <ℚ b → b ≤ℚ c → a <ℚ c
lt_le a b c h k = not_le c a (λ l. Q.lt-not-le a b h (Q.le_trans b c a k l))

pub le_lt : (a b c : Rational) → a ≤ℚ b → b <ℚ c → a <ℚ c
le_lt a b c h k = not_le c a (λ l. Q.lt-not-le b c k (Q.le_trans c a b l h))

difference-not_above : (a b : Rational) → a ≤ℚ b → a -ℚ b ≤ℚ zero_ℚ
difference-not_above a b h = rw (Q.add-neg b) at (Q.add-le-add a b (neg_ℚ b) (neg_ℚ b) h (Q.le_refl (neg_ℚ b)))

difference-not_below : (a b : Rational) → b ≤ℚ a → zero_ℚ ≤ℚ a -ℚ b
difference-not_below a b h = rw (Q.add-neg b) at (Q.add-le-add b a (neg_ℚ b) (neg_ℚ b) h (Q.le_refl (neg_ℚ b)))

back : (a b : Rational) → (a -ℚ b) +ℚ b ≡ a
back a b = Q.add_assoc a (neg_ℚ b) b ∙ ap (λ t. a +ℚ t) (Q.add_comm (neg_ℚ b) b ∙ Q.add-neg b) ∙ Q.add-zero a

pub rises : (a b : Rational) → zero_ℚ <ℚ a -ℚ b → b <ℚ a
rises a b h = not_le a b (λ k. Q.lt-not-le _ _ h (difference-not_above a b k))

pub falls : (a b : Rational) → a -ℚ b <ℚ zero_ℚ → a <ℚ b
falls a b h = not_le b a (λ k. Q.lt-not-le _ _ h (difference-not_below a b k))

pub above_zero : (a b : Rational) → b <ℚ a → zero_ℚ <ℚ a -ℚ b
above_zero a b h = not_le (a -ℚ b) zero_ℚ (λ k. Q.lt-not-le b a h (rw (back a b, Q.zero-add b) at (Q.add-le-add (a -ℚ b) zero_ℚ b b k (Q.le_refl b))))

pub below_zero : (a b : Rational) → a <ℚ b → a -ℚ b <ℚ zero_ℚ
below_zero a b h = not_le zero_ℚ (a -ℚ b) (λ k. Q.lt-not-le a b h (rw (back a b, Q.zero-add b) at (Q.add-le-add zero_ℚ (a -ℚ b) b b k (Q.le_refl b))))

-- ---- products

pub product_down : (a d : Rational) → zero_ℚ ≤ℚ a → d ≤ℚ zero_ℚ → a *ℚ d ≤ℚ zero_ℚ
product_down a d h k = rw (Q.mul-zero a) at (Q.mul-le-mul a d zero_ℚ h k)

pub product_up : (a d : Rational) → a ≤ℚ zero_ℚ → zero_ℚ ≤ℚ d → a *ℚ d ≤ℚ zero_ℚ
product_up a d h k = rw (Q.mul-zero a) at (mul-le-mul_neg a zero_ℚ d h k)

-- ---- strict products

one_above : zero_ℚ <ℚ one_ℚ
one_above = record { cross = parts }
  where
    parts : (pos 0 *ℤ pos 1) <ℤ (pos 1 *ℤ pos 1)
    parts = omega (arith, ints)

inverse_above : (a : Rational) → zero_ℚ <ℚ a → zero_ℚ ≤ℚ inv_ℚ a
inverse_above a h = elim (le_or_less zero_ℚ (inv_ℚ a)) [
  | inl up ↦ up
  | inr down ↦ absurd (Q.lt-not-le zero_ℚ one_ℚ one_above (rw (Q.mul-inv a (above_some a h)) at (product_down a (inv_ℚ a) (Q.le_of_lt _ _ h) (Q.le_of_lt _ _ down))))
]

pub product_above : (a d : Rational) → zero_ℚ <ℚ a → zero_ℚ <ℚ d → zero_ℚ <ℚ a *ℚ d
product_above a d h k = not_le (a *ℚ d) zero_ℚ (λ low. Q.lt-not-le zero_ℚ d k (rw undone at (product_down (inv_ℚ a) (a *ℚ d) (inverse_above a h) low)))
  where
    undone : inv_ℚ a *ℚ (a *ℚ d) ≡ d
    undone = sym (Q.mul_assoc (inv_ℚ a) a d) ∙ ap (λ t. t *ℚ d) (Q.mul_comm (inv_ℚ a) a ∙ Q.mul-inv a (above_some a h)) ∙ Q.one-mul d

-- a number whose product with one above 0 is not below 0
pub factor_up : (t d : Rational) → zero_ℚ <ℚ d → zero_ℚ ≤ℚ t *ℚ d → zero_ℚ ≤ℚ t
factor_up t d h k = not_less t zero_ℚ (λ low. Q.lt-not-le _ _ (product_above (neg_ℚ t) d (neg_below t low) h) (rw (Q.neg_mul t d) (rw neg-zero at (neg_le zero_ℚ (t *ℚ d) k))))

-- a variable that can go where d leads, but not so that anything rises at the rate a
pub stuck : (s : System) (x : ℕ → Rational) (j : ℕ) (a d : Rational) → ¬ (CanRaise s x j a) → (zero_ℚ <ℚ d → CanRise s x j) → (d <ℚ zero_ℚ → CanFall s x j) → a *ℚ d ≤ℚ zero_ℚ
stuck s x j a d n up down = elim (le_or_less d zero_ℚ) [
  | inr above ↦ product_up a d (not_less zero_ℚ a (λ h. n (inl (h, up above)))) (Q.le_of_lt _ _ above)
  | inl low ↦ elim (le_or_less zero_ℚ d) [
    | inr below ↦ product_down a d (not_less a zero_ℚ (λ h. n (inr (h, down below)))) low
    | inl high ↦ rw (Q.le_antisymm d zero_ℚ low high, Q.mul-zero a) (Q.le_refl zero_ℚ)
  ]
]

-- a variable that can go so that something rises at the rate a, but not where d leads
pub against : (s : System) (x : ℕ → Rational) (j : ℕ) (a d : Rational) → CanRaise s x j a → (zero_ℚ <ℚ d → ¬ (CanRise s x j)) → (d <ℚ zero_ℚ → ¬ (CanFall s x j)) → a *ℚ d ≤ℚ zero_ℚ
against s x j a d (inl h) up down = product_down a d (Q.le_of_lt _ _ h.0) (not_less zero_ℚ d (λ k. up k h.1))
against s x j a d (inr h) up down = product_up a d (Q.le_of_lt _ _ h.0) (not_less d zero_ℚ (λ k. down k h.1))

-- ---- sums

sum_down : (n : ℕ) (f : ℕ → Rational) → ((v : ℕ) → v < n → f v ≤ℚ zero_ℚ) → sum_below n f ≤ℚ zero_ℚ
sum_down zero f h = Q.le_refl zero_ℚ
sum_down (suc n) f h = rw (Q.add-zero zero_ℚ) at (Q.add-le-add (f n) zero_ℚ (sum_below n f) zero_ℚ (h n (omega arith)) (sum_down n f (λ v k. h v (omega arith))))

sum_up : (n : ℕ) (f : ℕ → Rational) → ((v : ℕ) → v < n → zero_ℚ ≤ℚ f v) → zero_ℚ ≤ℚ sum_below n f
sum_up zero f h = Q.le_refl zero_ℚ
sum_up (suc n) f h = rw (Q.add-zero zero_ℚ) at (Q.add-le-add zero_ℚ (f n) zero_ℚ (sum_below n f) (h n (omega arith)) (sum_up n f (λ v k. h v (omega arith))))

pub form_down : (n : ℕ) (x : ℕ → Rational) (f : List Entry) → AllBelow n f → ((v : ℕ) → v < n → coefficient_of f v *ℚ x v ≤ℚ zero_ℚ) → value_at x f ≤ℚ zero_ℚ
form_down n x f below h = rw (value_by_column n x f below) (sum_down n (λ v. coefficient_of f v *ℚ x v) h)

turn : (a d : Rational) → neg_ℚ a *ℚ d ≤ℚ zero_ℚ → zero_ℚ ≤ℚ a *ℚ d
turn a d h = rw (neg-zero, Q.neg_mul a d, Q.neg_neg (a *ℚ d)) at (neg_le (neg_ℚ a *ℚ d) zero_ℚ h)

pub form_up : (n : ℕ) (x : ℕ → Rational) (f : List Entry) → AllBelow n f → ((v : ℕ) → v < n → neg_ℚ (coefficient_of f v) *ℚ x v ≤ℚ zero_ℚ) → zero_ℚ ≤ℚ value_at x f
form_up n x f below h = rw (value_by_column n x f below) (sum_up n (λ v. coefficient_of f v *ℚ x v) (λ v k. turn (coefficient_of f v) (x v) (h v k)))
