-- The laws of the rational numbers as an ordered ring.
use Rattle.std.proofs.Common.{◌≡◌, ◌∙◌, ℕ, ◌*◌, ◌<◌, refl, sym, ap, arith, ◌⊎◌}
use Rattle.std.proofs.Math.Logic.{⊎_map}
use Rattle.std.specs.Int.{int_signum}
use Rattle.std.specs.Prelude.{ℤ, pos, negsuc, zero, suc, min, ◌+ℤ◌, ◌*ℤ◌, neg_ℤ, ◌≤ℤ◌, ◌<ℤ◌, unsigned_abs}
use Rattle.std.proofs.lemmas.Int.{ints}
use Rattle.integer.proofs.Laws as Z
use Rattle.integer.proofs.Laws.{ring}
use Rattle.rational.specs.Rational.{inv_ℚ, ◌<ℚ◌, Rational, ◌≤ℚ◌, ◌+ℚ◌, ◌*ℚ◌, neg_ℚ, zero_ℚ, one_ℚ}
use Rattle.rational.proofs.Value.{value_over, IsValue, value_self, value_same, value_le, value_add, value_mul, value_neg, IsPositive-denominator, some_pos}

-- two sums or products of the same parts, by their values
add-value : (p q : Rational) → IsValue (p +ℚ q) (p.numerator *ℤ pos q.denominator +ℤ q.numerator *ℤ pos p.denominator) (pos p.denominator *ℤ pos q.denominator)
add-value p q = value_add p q _ _ _ _ (value_self p) (value_self q)

mul-value : (p q : Rational) → IsValue (p *ℚ q) (p.numerator *ℤ q.numerator) (pos p.denominator *ℤ pos q.denominator)
mul-value p q = value_mul p q _ _ _ _ (value_self p) (value_self q)

pub add_comm : (a b : Rational) → a +ℚ b ≡ b +ℚ a
add_comm a b = value_same _ _ _ _ _ _ (add-value a b) (add-value b a) (simp ring)

pub add_assoc : (a b c : Rational) → (a +ℚ b) +ℚ c ≡ a +ℚ (b +ℚ c)
add_assoc a b c = value_same _ _ _ _ _ _ (value_add _ _ _ _ _ _ (add-value a b) (value_self c)) (value_add _ _ _ _ _ _ (value_self a) (add-value b c)) (simp ring)

pub mul_comm : (a b : Rational) → a *ℚ b ≡ b *ℚ a
mul_comm a b = value_same _ _ _ _ _ _ (mul-value a b) (mul-value b a) (simp ring)

pub mul_assoc : (a b c : Rational) → (a *ℚ b) *ℚ c ≡ a *ℚ (b *ℚ c)
mul_assoc a b c = value_same _ _ _ _ _ _ (value_mul _ _ _ _ _ _ (mul-value a b) (value_self c)) (value_mul _ _ _ _ _ _ (value_self a) (mul-value b c)) (simp ring)

-- an equation that repeats a denominator is proved of variables: `pos a.denominator *ℤ pos b.denominator` is also `pos (a.denominator * b.denominator)`, which `simp` does not sort
mul_add_parts : (n m k a b c : ℤ) → (n *ℤ (m *ℤ c +ℤ k *ℤ b)) *ℤ ((a *ℤ b) *ℤ (a *ℤ c)) ≡ ((n *ℤ m) *ℤ (a *ℤ c) +ℤ (n *ℤ k) *ℤ (a *ℤ b)) *ℤ (a *ℤ (b *ℤ c))
mul_add_parts n m k a b c = simp ring

pub mul_add : (a b c : Rational) → a *ℚ (b +ℚ c) ≡ a *ℚ b +ℚ a *ℚ c
mul_add a b c = value_same _ _ _ _ _ _ (value_mul _ _ _ _ _ _ (value_self a) (add-value b c)) (value_add _ _ _ _ _ _ (mul-value a b) (mul-value a c))
    (mul_add_parts a.numerator b.numerator c.numerator (pos a.denominator) (pos b.denominator) (pos c.denominator))

pub add_left_comm : (a b c : Rational) → a +ℚ (b +ℚ c) ≡ b +ℚ (a +ℚ c)
add_left_comm a b c = sym (add_assoc a b c) ∙ ap (λ x. x +ℚ c) (add_comm a b) ∙ add_assoc b a c

pub mul_left_comm : (a b c : Rational) → a *ℚ (b *ℚ c) ≡ b *ℚ (a *ℚ c)
mul_left_comm a b c = sym (mul_assoc a b c) ∙ ap (λ x. x *ℚ c) (mul_comm a b) ∙ mul_assoc b a c

pub add_mul : (a b c : Rational) → (a +ℚ b) *ℚ c ≡ a *ℚ c +ℚ b *ℚ c
add_mul a b c = mul_comm (a +ℚ b) c ∙ mul_add c a b ∙ simp mul_comm

zero-value : IsValue zero_ℚ (pos 0) (pos 1)
zero-value = value_self zero_ℚ

add-zero_parts : (n d : ℤ) → (n *ℤ pos 1 +ℤ pos 0 *ℤ d) *ℤ d ≡ n *ℤ (d *ℤ pos 1)
add-zero_parts n d = simp Z.units

pub add-zero : (a : Rational) → a +ℚ zero_ℚ ≡ a
add-zero a = value_same _ _ _ _ _ _ (value_add _ _ _ _ _ _ (value_self a) zero-value) (value_self a) (add-zero_parts a.numerator (pos a.denominator))

pub zero-add : (a : Rational) → zero_ℚ +ℚ a ≡ a
zero-add a = add_comm zero_ℚ a ∙ add-zero a

mul-zero_parts : (n d : ℤ) → n *ℤ pos 0 *ℤ pos 1 ≡ pos 0 *ℤ (d *ℤ pos 1)
mul-zero_parts n d = simp Z.units

pub mul-zero : (a : Rational) → a *ℚ zero_ℚ ≡ zero_ℚ
mul-zero a = value_same _ _ _ _ _ _ (value_mul _ _ _ _ _ _ (value_self a) zero-value) zero-value (mul-zero_parts a.numerator (pos a.denominator))

pub zero-mul : (a : Rational) → zero_ℚ *ℚ a ≡ zero_ℚ
zero-mul a = mul_comm zero_ℚ a ∙ mul-zero a

mul-one_parts : (n d : ℤ) → n *ℤ pos 1 *ℤ d ≡ n *ℤ (d *ℤ pos 1)
mul-one_parts n d = simp Z.units

pub mul-one : (a : Rational) → a *ℚ one_ℚ ≡ a
mul-one a = value_same _ _ _ _ _ _ (value_mul _ _ _ _ _ _ (value_self a) (value_self one_ℚ)) (value_self a) (mul-one_parts a.numerator (pos a.denominator))

pub one-mul : (a : Rational) → one_ℚ *ℚ a ≡ a
one-mul a = mul_comm one_ℚ a ∙ mul-one a

add-neg_parts : (n d : ℤ) → (n *ℤ d +ℤ neg_ℤ n *ℤ d) *ℤ pos 1 ≡ pos 0 *ℤ (d *ℤ d)
add-neg_parts n d = simp (Z.neg_mul, Z.add_neg, Z.units)

pub add-neg : (a : Rational) → a +ℚ neg_ℚ a ≡ zero_ℚ
add-neg a = value_same _ _ _ _ _ _ (value_add _ _ _ _ _ _ (value_self a) (value_neg a _ _ (value_self a))) zero-value (add-neg_parts a.numerator (pos a.denominator))

-- ---- the order

pub le_refl : (a : Rational) → a ≤ℚ a
le_refl a = record { cross = Z.le_by _ _ _ _ refl refl (reflexive _) }
  where
    reflexive : (x : ℤ) → x ≤ℤ x
    reflexive x = omega (arith, ints)

trans_parts : (a b c x y z : ℤ) → pos 0 <ℤ x → pos 0 <ℤ y → pos 0 <ℤ z → (a *ℤ y) ≤ℤ (b *ℤ x) → (b *ℤ z) ≤ℤ (c *ℤ y) → (a *ℤ z) ≤ℤ (c *ℤ x)
trans_parts a b c x y z i j k p q =
    let u : (a *ℤ z) *ℤ y ≡ (a *ℤ y) *ℤ z = simp ring in
    let v : (b *ℤ z) *ℤ x ≡ (b *ℤ x) *ℤ z = simp ring in
    let w : (c *ℤ x) *ℤ y ≡ (c *ℤ y) *ℤ x = simp ring in
    let m = Z.mul-mono _ _ z (weak z k) p in
    let n = Z.mul-mono _ _ x (weak x i) q in
    Z.mul-cancel _ _ y j (Z.le_by _ _ _ _ u w (Z.le_trans _ _ _ m (Z.le_by _ _ _ _ (sym v) refl n)))
  where
    weak : (k : ℤ) → pos 0 <ℤ k → pos 0 ≤ℤ k
    weak k h = omega (arith, ints)

pub le_trans : (a b c : Rational) → a ≤ℚ b → b ≤ℚ c → a ≤ℚ c
le_trans a b c p q = record { cross = trans_parts a.numerator b.numerator c.numerator (pos a.denominator) (pos b.denominator) (pos c.denominator) (IsPositive-denominator a) (IsPositive-denominator b) (IsPositive-denominator c) p.cross q.cross }

pub le_total : (a b : Rational) → (a ≤ℚ b) ⊎ (b ≤ℚ a)
le_total a b = ⊎_map (λ h. record { cross = h }) (λ h. record { cross = h }) (Z.le_total _ _)

pub le_antisymm : (a b : Rational) → a ≤ℚ b → b ≤ℚ a → a ≡ b
le_antisymm a b p q = value_same _ _ _ _ _ _ (value_self a) (value_self b) (Z.le_antisymm _ _ p.cross q.cross)

add_parts : (a b c d x y z w : ℤ) → pos 0 ≤ℤ (x *ℤ y) → pos 0 ≤ℤ (z *ℤ w) → (a *ℤ y) ≤ℤ (b *ℤ x) → (c *ℤ w) ≤ℤ (d *ℤ z) → ((a *ℤ z +ℤ c *ℤ x) *ℤ (y *ℤ w)) ≤ℤ ((b *ℤ w +ℤ d *ℤ y) *ℤ (x *ℤ z))
add_parts a b c d x y z w i j p q =
    let u : (a *ℤ z +ℤ c *ℤ x) *ℤ (y *ℤ w) ≡ (a *ℤ y) *ℤ (z *ℤ w) +ℤ (c *ℤ w) *ℤ (x *ℤ y) = simp ring in
    let v : (b *ℤ w +ℤ d *ℤ y) *ℤ (x *ℤ z) ≡ (b *ℤ x) *ℤ (z *ℤ w) +ℤ (d *ℤ z) *ℤ (x *ℤ y) = simp ring in
    Z.le_by _ _ _ _ u v (Z.add-le-add _ _ _ _ (Z.mul-mono _ _ _ j p) (Z.mul-mono _ _ _ i q))

pub add-le-add : (a b c d : Rational) → a ≤ℚ b → c ≤ℚ d → a +ℚ c ≤ℚ b +ℚ d
add-le-add a b c d p q = value_le _ _ _ _ _ _ (add-value a c) (add-value b d)
    (add_parts a.numerator b.numerator c.numerator d.numerator (pos a.denominator) (pos b.denominator) (pos c.denominator) (pos d.denominator) (some_pos (a.denominator * b.denominator)) (some_pos (c.denominator * d.denominator)) p.cross q.cross)

mul_parts : (k a b z x y : ℤ) → pos 0 ≤ℤ (k *ℤ z) → (a *ℤ y) ≤ℤ (b *ℤ x) → ((k *ℤ a) *ℤ (z *ℤ y)) ≤ℤ ((k *ℤ b) *ℤ (z *ℤ x))
mul_parts k a b z x y i p =
    let u : (k *ℤ a) *ℤ (z *ℤ y) ≡ (a *ℤ y) *ℤ (k *ℤ z) = simp ring in
    let v : (k *ℤ b) *ℤ (z *ℤ x) ≡ (b *ℤ x) *ℤ (k *ℤ z) = simp ring in
    Z.le_by _ _ _ _ u v (Z.mul-mono _ _ _ i p)

pub numerator-non_negative : (k : Rational) → zero_ℚ ≤ℚ k → pos 0 ≤ℤ k.numerator
numerator-non_negative k p = Z.le_by _ _ _ _ (sym (Z.zero-mul (pos k.denominator))) (sym (Z.mul-one k.numerator)) p.cross

pub mul-le-mul : (k a b : Rational) → zero_ℚ ≤ℚ k → a ≤ℚ b → k *ℚ a ≤ℚ k *ℚ b
mul-le-mul k a b p q = value_le _ _ _ _ _ _ (mul-value k a) (mul-value k b)
    (mul_parts k.numerator a.numerator b.numerator (pos k.denominator) (pos a.denominator) (pos b.denominator) (Z.mul-non_negative k.numerator (pos k.denominator) (numerator-non_negative k p) (some_pos k.denominator)) q.cross)

pub ruleset field = (add_assoc, add_comm, add_left_comm, mul_assoc, mul_comm, mul_left_comm, mul_add, add_mul)

inv_parts : (s n d a : ℤ) → s *ℤ n ≡ a → (n *ℤ (s *ℤ d)) *ℤ pos 1 ≡ pos 1 *ℤ (d *ℤ a)
inv_parts s n d a e = let k : n *ℤ (s *ℤ d) ≡ d *ℤ (s *ℤ n) = simp ring in simp Z.units (rw (← e) k)

sign_abs : (n : ℤ) → int_signum n *ℤ n ≡ pos (unsigned_abs n)
sign_abs (pos zero) = refl
sign_abs (pos (suc n)) = let e : min (suc n) 1 * suc n ≡ suc n = top n in ap pos e
  where
    top : (n : ℕ) → min (suc n) 1 * suc n ≡ suc n
    top n = let e : min (suc n) 1 ≡ 1 = omega arith in rw e (omega arith)
sign_abs (negsuc n) = ap pos (once n)
  where
    once : (n : ℕ) → suc 0 * suc n ≡ suc n
    once n = omega arith

abs_some : (n : ℤ) → ¬ (n ≡ pos 0) → 0 < unsigned_abs n
abs_some n h = omega (arith, ints)

pub mul-inv : (a : Rational) → ¬ (a.numerator ≡ pos 0) → a *ℚ inv_ℚ a ≡ one_ℚ
unfolding inv_ℚ
mul-inv a h =
    value_same _ _ _ _ _ _ (value_mul _ _ _ _ _ _ (value_self a) (value_over _ _ (abs_some a.numerator h))) (value_self one_ℚ)
    (inv_parts (int_signum a.numerator) a.numerator (pos a.denominator) (pos (unsigned_abs a.numerator)) (sign_abs a.numerator))

lt_parts : (a b : ℤ) → a <ℤ b → a ≤ℤ b
lt_parts a b h = omega (arith, ints)

pub le_of_lt : (a b : Rational) → a <ℚ b → a ≤ℚ b
le_of_lt a b h = record { cross = lt_parts _ _ h.cross }

pub lt-not-le : (a b : Rational) → a <ℚ b → b ≤ℚ a → ⊥
lt-not-le a b h k = clash _ _ h.cross k.cross
  where
    clash : (x y : ℤ) → x <ℤ y → y ≤ℤ x → ⊥
    clash x y h k = omega (arith, ints)

strict_parts : (a b c x y z : ℤ) → pos 0 <ℤ x → pos 0 <ℤ y → pos 0 <ℤ z → (a *ℤ y) <ℤ (b *ℤ x) → (b *ℤ z) <ℤ (c *ℤ y) → (a *ℤ z) <ℤ (c *ℤ x)
strict_parts a b c x y z i j k p q =
    let u : (a *ℤ z) *ℤ y ≡ (a *ℤ y) *ℤ z = simp ring in
    let v : (b *ℤ x) *ℤ z ≡ (b *ℤ z) *ℤ x = simp ring in
    let w : (c *ℤ y) *ℤ x ≡ (c *ℤ x) *ℤ y = simp ring in
    let m = Z.mul-mono_lt _ _ z k p in
    let n = Z.mul-mono_lt _ _ x i q in
    Z.mul-cancel_lt _ _ y j (Z.lt_by _ _ _ _ u (sym w) (Z.lt_trans _ _ _ m (Z.lt_by _ _ _ _ v refl n)))

pub lt_trans : (a b c : Rational) → a <ℚ b → b <ℚ c → a <ℚ c
lt_trans a b c p q = record { cross = strict_parts a.numerator b.numerator c.numerator (pos a.denominator) (pos b.denominator) (pos c.denominator) (IsPositive-denominator a) (IsPositive-denominator b) (IsPositive-denominator c) p.cross q.cross }

-- ---- signs, from the laws of a ring alone

pub add_left_cancel : (a b c : Rational) → a +ℚ b ≡ a +ℚ c → b ≡ c
add_left_cancel a b c e =
    let u : (x : Rational) → neg_ℚ a +ℚ (a +ℚ x) ≡ x = λ x. sym (add_assoc (neg_ℚ a) a x) ∙ ap (λ y. y +ℚ x) (add_comm (neg_ℚ a) a ∙ add-neg a) ∙ zero-add x in
    sym (u b) ∙ ap (λ y. neg_ℚ a +ℚ y) e ∙ u c

pub cancel_left : (a b : Rational) → a +ℚ (neg_ℚ a +ℚ b) ≡ b
cancel_left a b = sym (add_assoc a (neg_ℚ a) b) ∙ ap (λ y. y +ℚ b) (add-neg a) ∙ zero-add b

pub cancel_right : (a b : Rational) → neg_ℚ a +ℚ (a +ℚ b) ≡ b
cancel_right a b = sym (add_assoc (neg_ℚ a) a b) ∙ ap (λ y. y +ℚ b) (add_comm (neg_ℚ a) a ∙ add-neg a) ∙ zero-add b

pub neg_neg : (a : Rational) → neg_ℚ (neg_ℚ a) ≡ a
neg_neg a = add_left_cancel (neg_ℚ a) _ _ (add-neg (neg_ℚ a) ∙ sym (add_comm (neg_ℚ a) a ∙ add-neg a))

pub neg_add : (a b : Rational) → neg_ℚ (a +ℚ b) ≡ neg_ℚ a +ℚ neg_ℚ b
neg_add a b = add_left_cancel (a +ℚ b) _ _ (add-neg (a +ℚ b) ∙ sym (all a b (neg_ℚ a) (neg_ℚ b) ∙ ap (λ x. x +ℚ (b +ℚ neg_ℚ b)) (add-neg a) ∙ ap (λ x. zero_ℚ +ℚ x) (add-neg b) ∙ add-zero zero_ℚ))
  where
    all : (a b c d : Rational) → (a +ℚ b) +ℚ (c +ℚ d) ≡ (a +ℚ c) +ℚ (b +ℚ d)
    all a b c d = simp field

pub neg_mul : (a b : Rational) → neg_ℚ a *ℚ b ≡ neg_ℚ (a *ℚ b)
neg_mul a b = add_left_cancel (a *ℚ b) _ _ (sym (add_mul a (neg_ℚ a) b) ∙ ap (λ x. x *ℚ b) (add-neg a) ∙ zero-mul b ∙ sym (add-neg (a *ℚ b)))

pub mul_neg : (a b : Rational) → a *ℚ neg_ℚ b ≡ neg_ℚ (a *ℚ b)
mul_neg a b = mul_comm a (neg_ℚ b) ∙ neg_mul b a ∙ ap neg_ℚ (mul_comm b a)

pub inv_left : (a b : Rational) → ¬ (a.numerator ≡ pos 0) → a *ℚ (inv_ℚ a *ℚ b) ≡ b
inv_left a b h = sym (mul_assoc a (inv_ℚ a) b) ∙ ap (λ y. y *ℚ b) (mul-inv a h) ∙ one-mul b

pub inv_right : (a b : Rational) → ¬ (a.numerator ≡ pos 0) → inv_ℚ a *ℚ (a *ℚ b) ≡ b
inv_right a b h = sym (mul_assoc (inv_ℚ a) a b) ∙ ap (λ y. y *ℚ b) (mul_comm (inv_ℚ a) a ∙ mul-inv a h) ∙ one-mul b

pub inv_far : (a b : Rational) → ¬ (a.numerator ≡ pos 0) → a *ℚ (b *ℚ inv_ℚ a) ≡ b
inv_far a b h = ap (λ y. a *ℚ y) (mul_comm b (inv_ℚ a)) ∙ inv_left a b h

pub ruleset field_units = (add-zero, zero-add, mul-zero, zero-mul, mul-one, one-mul)

pub ruleset signs = (neg_mul, mul_neg, neg_add, neg_neg, add-neg, cancel_left, cancel_right)

pub ruleset inverses = (mul-inv, inv_left, inv_right, inv_far)

pub ruleset field_lemmas = (add_comm, add_assoc, add-zero, add-neg, mul_comm, mul_assoc, mul-one, mul-inv, mul_add)

pub ruleset order_lemmas = (le_refl, le_trans, le_antisymm, le_total, add-le-add, mul-le-mul, le_of_lt, lt-not-le)
