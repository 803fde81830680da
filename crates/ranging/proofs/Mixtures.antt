-- Numbers and points mixed of two others.
use Rattle.std.proofs.Common.{◌≡◌, ◌∙◌, ℕ, zero, suc, List, [], ◌∷◌, refl, sym, ap, Option, Some, None, IfSome, arith, length}
use mathlib.Core.Path.{ap₂}
use Rattle.rational.specs.Rational.{Rational, ◌≤ℚ◌, ◌<ℚ◌, ◌+ℚ◌, ◌-ℚ◌, ◌*ℚ◌, neg_ℚ, inv_ℚ, zero_ℚ, one_ℚ}
use Rattle.rational.proofs.Laws as Q
use Rattle.rational.proofs.Laws.{field}
use Rattle.milp.specs.Form.{Entry, number_at, sum_at}
use Rattle.milp.specs.Points.{IsWithin}
use Rattle.verdicts.proofs.Laws.{le_by}
use Rattle.ranging.proofs.Order.{difference, difference_less, some_above, inverse_above}

-- ---- numbers

-- two weights that are at least 0 and make 1
pub record IsMix (k l : Rational) : Type 0 where
  pub first : zero_ℚ ≤ℚ k
  pub second : zero_ℚ ≤ℚ l
  pub one : k +ℚ l ≡ one_ℚ

pub mix_same : (k l a : Rational) → IsMix k l → k *ℚ a +ℚ l *ℚ a ≡ a
mix_same k l a m = sym (Q.add_mul k l a) ∙ ap (λ z. z *ℚ a) m.one ∙ Q.one-mul a

pub mix_le : (k l a b u v : Rational) → IsMix k l → a ≤ℚ u → b ≤ℚ v → k *ℚ a +ℚ l *ℚ b ≤ℚ k *ℚ u +ℚ l *ℚ v
mix_le k l a b u v m g h = Q.add-le-add _ _ _ _ (Q.mul-le-mul k a u m.first g) (Q.mul-le-mul l b v m.second h)

-- a number between two others is mixed of them
pub mixed_of : {X : Type 0} (a b t : Rational) → a ≤ℚ t → t ≤ℚ b → a <ℚ b → ((k l : Rational) → IsMix k l → t ≡ k *ℚ a +ℚ l *ℚ b → X) → X
mixed_of a b t g h d more =
    let some = some_above (b -ℚ a) (difference_less a b d) in
    let inverse = inverse_above (b -ℚ a) (difference_less a b d) in
    more ((b -ℚ t) *ℚ inv_ℚ (b -ℚ a)) ((t -ℚ a) *ℚ inv_ℚ (b -ℚ a)) (record {
      first = both (b -ℚ t) (inv_ℚ (b -ℚ a)) (difference t b h) inverse;
      second = both (t -ℚ a) (inv_ℚ (b -ℚ a)) (difference a t g) inverse;
      one = sym (Q.add_mul (b -ℚ t) (t -ℚ a) (inv_ℚ (b -ℚ a))) ∙ ap (λ z. z *ℚ inv_ℚ (b -ℚ a)) (whole_way b t a) ∙ Q.mul-inv (b -ℚ a) some;
    }) (sym (parts (b -ℚ t) (t -ℚ a) (inv_ℚ (b -ℚ a)) a b ∙ ap (λ z. z *ℚ inv_ℚ (b -ℚ a)) (cross a b t) ∙ Q.mul_assoc t (b -ℚ a) (inv_ℚ (b -ℚ a)) ∙ ap (λ z. t *ℚ z) (Q.mul-inv (b -ℚ a) some) ∙ Q.mul-one t))
  where
    both : (x y : Rational) → zero_ℚ ≤ℚ x → zero_ℚ ≤ℚ y → zero_ℚ ≤ℚ x *ℚ y
    both x y g h = le_by _ _ _ _ (sym (Q.mul-zero x)) refl (Q.mul-le-mul x zero_ℚ y g h)

    whole_way : (b t a : Rational) → (b -ℚ t) +ℚ (t -ℚ a) ≡ b -ℚ a
    whole_way b t a = Q.add_assoc b (neg_ℚ t) (t -ℚ a) ∙ ap (λ z. b +ℚ z) (Q.cancel_right t (neg_ℚ a))

    parts : (x y i a b : Rational) → (x *ℚ i) *ℚ a +ℚ (y *ℚ i) *ℚ b ≡ (x *ℚ a +ℚ y *ℚ b) *ℚ i
    parts x y i a b = simp field

    spread : (a b t m n : Rational) → (b +ℚ m) *ℚ a +ℚ (t +ℚ n) *ℚ b ≡ (a *ℚ b +ℚ t *ℚ b) +ℚ (m *ℚ a +ℚ n *ℚ b)
    spread a b t m n = simp field

    turn : (x y : Rational) → neg_ℚ x *ℚ y ≡ neg_ℚ (x *ℚ y)
    turn x y = Q.neg_mul x y

    regroup : (u v w n : Rational) → (u +ℚ v) +ℚ (w +ℚ n) ≡ (u +ℚ n) +ℚ (v +ℚ w)
    regroup u v w n = simp field

    ends : (u v w : Rational) → (u +ℚ v) +ℚ (neg_ℚ w +ℚ neg_ℚ u) ≡ v +ℚ neg_ℚ w
    ends u v w = regroup u v (neg_ℚ w) (neg_ℚ u) ∙ ap (λ z. z +ℚ (v +ℚ neg_ℚ w)) (Q.add-neg u) ∙ Q.zero-add _

    cross : (a b t : Rational) → (b -ℚ t) *ℚ a +ℚ (t -ℚ a) *ℚ b ≡ t *ℚ (b -ℚ a)
    cross a b t = spread a b t (neg_ℚ t) (neg_ℚ a) ∙ ap₂ ◌+ℚ◌ refl (ap₂ ◌+ℚ◌ (turn t a) (turn a b)) ∙ ends (a *ℚ b) (t *ℚ b) (t *ℚ a)
        ∙ sym (Q.mul_add t b (neg_ℚ a) ∙ ap (λ z. t *ℚ b +ℚ z) (Q.mul_neg t a))

-- ---- points

abbrev pub mixed : Rational → Rational → List Rational → List Rational → List Rational
mixed k l [] ys = []
mixed k l (x ∷ xs) [] = []
mixed k l (x ∷ xs) (y ∷ ys) = (k *ℚ x +ℚ l *ℚ y) ∷ mixed k l xs ys

pub mixed_size : (k l : Rational) (x y : List Rational) → length x ≡ length y → length (mixed k l x y) ≡ length x
mixed_size k l [] y e = refl
mixed_size k l (a ∷ x) [] e = absurd (omega arith)
mixed_size k l (a ∷ x) (b ∷ y) e = ap suc (mixed_size k l x y (omega arith))

pub zero_mixed : (k l : Rational) → zero_ℚ ≡ k *ℚ zero_ℚ +ℚ l *ℚ zero_ℚ
zero_mixed k l = sym (ap₂ ◌+ℚ◌ (Q.mul-zero k) (Q.mul-zero l) ∙ Q.add-zero zero_ℚ)

pub mixed_number : (k l : Rational) (x y : List Rational) (j : ℕ) → length x ≡ length y → number_at (mixed k l x y) j ≡ k *ℚ number_at x j +ℚ l *ℚ number_at y j
mixed_number k l [] [] j e = zero_mixed k l
mixed_number k l [] (b ∷ y) j e = absurd (omega arith)
mixed_number k l (a ∷ x) [] j e = absurd (omega arith)
mixed_number k l (a ∷ x) (b ∷ y) zero e = refl
mixed_number k l (a ∷ x) (b ∷ y) (suc j) e = mixed_number k l x y j (omega arith)

pub mixed_sum : (k l : Rational) (x y : List Rational) (es : List Entry) → length x ≡ length y → sum_at (mixed k l x y) es ≡ k *ℚ sum_at x es +ℚ l *ℚ sum_at y es
mixed_sum k l x y [] e = zero_mixed k l
mixed_sum k l x y (a ∷ es) e = rw (mixed_number k l x y a.column e, mixed_sum k l x y es e) (parts k l a.coefficient (number_at x a.column) (number_at y a.column) (sum_at x es) (sum_at y es))
  where
    parts : (k l c v u s t : Rational) → c *ℚ (k *ℚ v +ℚ l *ℚ u) +ℚ (k *ℚ s +ℚ l *ℚ t) ≡ k *ℚ (c *ℚ v +ℚ s) +ℚ l *ℚ (c *ℚ u +ℚ t)
    parts k l c v u s t = simp field

pub low_mixed : (k l v u : Rational) (o : Option Rational) → IsMix k l → IfSome o (λ b. b ≤ℚ v) → IfSome o (λ b. b ≤ℚ u) → IfSome o (λ b. b ≤ℚ k *ℚ v +ℚ l *ℚ u)
low_mixed k l v u None m g h = tt
low_mixed k l v u (Some b) m g h = le_by _ _ _ _ (sym (mix_same k l b m)) refl (mix_le k l b b v u m g h)

pub high_mixed : (k l v u : Rational) (o : Option Rational) → IsMix k l → IfSome o (λ b. v ≤ℚ b) → IfSome o (λ b. u ≤ℚ b) → IfSome o (λ b. k *ℚ v +ℚ l *ℚ u ≤ℚ b)
high_mixed k l v u None m g h = tt
high_mixed k l v u (Some b) m g h = le_by _ _ _ _ refl (sym (mix_same k l b m)) (mix_le k l v u b b m g h)

pub within_mixed : (k l v u : Rational) (lower upper : Option Rational) → IsMix k l → IsWithin lower upper v → IsWithin lower upper u → IsWithin lower upper (k *ℚ v +ℚ l *ℚ u)
within_mixed k l v u lower upper m g h = record { low = low_mixed k l v u lower m g.low h.low; high = high_mixed k l v u upper m g.high h.high }
