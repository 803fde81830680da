-- What a rational number is worth: n / d, in whatever terms. Each law of the operations is then one equation of whole numbers.
use Rattle.std.proofs.Common.{◌≡◌, ◌∙◌, ℕ, ◌*◌, ◌<◌, refl, sym, ap, arith, mul-pos}
use Rattle.std.specs.Prelude.{max, ℤ, pos, ◌+ℤ◌, ◌*ℤ◌, neg_ℤ, ◌≤ℤ◌, ◌<ℤ◌, unsigned_abs}
use Rattle.std.proofs.Math.Nat.{div-mul_cancel, ℕ_set}
use Rattle.std.proofs.Math.Bridge.{le_prop}
use Rattle.integer.proofs.Laws.{ring, neg_mul, IsPositive-pos, IsPositive-mul, mul-mono, mul-cancel, mul-cancel_same, gcd-is, same_lowest, quot_scaled}
use Rattle.integer.specs.Gcd.{gcd}
use Rattle.integer.specs.Lowest.{IsLowest}
use Rattle.rational.specs.Rational.{Rational, over, ◌≤ℚ◌, ◌+ℚ◌, ◌*ℚ◌, neg_ℚ}
use mathlib.Core.Path.{ap₂}
use mathlib.Core.HLevel.{is_prop→PathP}
use Rattle.std.proofs.lemmas.Int.{ints}

-- q is n / d
pub record IsValue (q : Rational) (n : ℤ) (d : ℤ) : Type 0 where
  pub positive : pos 0 <ℤ d
  pub cross : q.numerator *ℤ d ≡ n *ℤ pos q.denominator

pub some_pos : (n : ℕ) → pos 0 ≤ℤ pos n
some_pos n = omega (arith, ints)

lowest_prop : (n : ℤ) (d : ℕ) → IsProp (IsLowest n d)
lowest_prop n d = hlevel (le_prop, ℕ_set)

pub same_parts : (p q : Rational) → p.numerator ≡ q.numerator → p.denominator ≡ q.denominator → p ≡ q
same_parts p q n d = λ i. record {
  numerator = n i;
  denominator = d i;
  lowest = is_prop→PathP (λ j. IsLowest (n j) (d j)) (λ j. lowest_prop (n j) (d j)) p.lowest q.lowest i;
}

pub IsPositive-denominator : (q : Rational) → pos 0 <ℤ pos q.denominator
IsPositive-denominator q = IsPositive-pos q.denominator q.lowest.positive

pub value_self : (q : Rational) → IsValue q q.numerator (pos q.denominator)
value_self q = record { positive = IsPositive-denominator q; cross = refl }

pub cross_scaled : (N n : ℤ) (D d g : ℕ) → N *ℤ pos g ≡ n → D * g ≡ d → N *ℤ pos d ≡ n *ℤ pos D
cross_scaled N n D d g e f = let h : N *ℤ (pos D *ℤ pos g) ≡ (N *ℤ pos g) *ℤ pos D = simp ring in rw (← e, ← f) h

pub value_over : (n : ℤ) (d : ℕ) (h : 0 < d) → IsValue (over n d) n (pos d)
unfolding over
value_over n d h =
    let top : max 1 d ≡ d = omega arith in
    let g = gcd (unsigned_abs n) (max 1 d) in
    record {
      positive = IsPositive-pos d h;
      cross = cross_scaled _ n _ d g (quot_scaled n g (gcd-is (unsigned_abs n) (max 1 d)).0) (div-mul_cancel g (gcd-is (unsigned_abs n) (max 1 d)).1 ∙ top);
    }

-- both sides of a/b = n/d and c/f = m/e, multiplied by d * e
left_scaled : (a n b d e f : ℤ) → a *ℤ d ≡ n *ℤ b → (a *ℤ f) *ℤ (d *ℤ e) ≡ (n *ℤ e) *ℤ (b *ℤ f)
left_scaled a n b d e f v =
    let x : (a *ℤ f) *ℤ (d *ℤ e) ≡ (a *ℤ d) *ℤ (f *ℤ e) = simp ring in
    let y : (n *ℤ b) *ℤ (f *ℤ e) ≡ (n *ℤ e) *ℤ (b *ℤ f) = simp ring in
    x ∙ ap (λ z. z *ℤ (f *ℤ e)) v ∙ y

right_scaled : (c m b d e f : ℤ) → c *ℤ e ≡ m *ℤ f → (c *ℤ b) *ℤ (d *ℤ e) ≡ (m *ℤ d) *ℤ (b *ℤ f)
right_scaled c m b d e f w =
    let x : (c *ℤ b) *ℤ (d *ℤ e) ≡ (c *ℤ e) *ℤ (b *ℤ d) = simp ring in
    let y : (m *ℤ f) *ℤ (b *ℤ d) ≡ (m *ℤ d) *ℤ (b *ℤ f) = simp ring in
    x ∙ ap (λ z. z *ℤ (b *ℤ d)) w ∙ y

pub value_same : (p q : Rational) (n m d e : ℤ) → IsValue p n d → IsValue q m e → n *ℤ e ≡ m *ℤ d → p ≡ q
value_same p q n m d e v w same =
    let l = left_scaled p.numerator n (pos p.denominator) d e (pos q.denominator) v.cross in
    let r = right_scaled q.numerator m (pos p.denominator) d e (pos q.denominator) w.cross in
    let k : (p.numerator *ℤ pos q.denominator) *ℤ (d *ℤ e) ≡ (q.numerator *ℤ pos p.denominator) *ℤ (d *ℤ e) =
    l ∙ ap (λ z. z *ℤ (pos p.denominator *ℤ pos q.denominator)) same ∙ sym r in
    let u = same_lowest p.numerator q.numerator p.denominator q.denominator p.lowest q.lowest (mul-cancel_same _ _ (d *ℤ e) (IsPositive-mul d e v.positive w.positive) k) in
    same_parts p q u.0 u.1

pub value_le : (p q : Rational) (n m d e : ℤ) → IsValue p n d → IsValue q m e → (n *ℤ e) ≤ℤ (m *ℤ d) → p ≤ℚ q
value_le p q n m d e v w le =
    let l = left_scaled p.numerator n (pos p.denominator) d e (pos q.denominator) v.cross in
    let r = right_scaled q.numerator m (pos p.denominator) d e (pos q.denominator) w.cross in
    let k : ((p.numerator *ℤ pos q.denominator) *ℤ (d *ℤ e)) ≤ℤ ((q.numerator *ℤ pos p.denominator) *ℤ (d *ℤ e)) =
    rw (l, r) (mul-mono _ _ (pos (p.denominator * q.denominator)) (some_pos (p.denominator * q.denominator)) le) in
    record { cross = mul-cancel _ _ (d *ℤ e) (IsPositive-mul d e v.positive w.positive) k }

-- a value in other terms
pub value_also : (q : Rational) (n m d e : ℤ) → IsValue q n d → pos 0 <ℤ e → n *ℤ e ≡ m *ℤ d → IsValue q m e
value_also q n m d e v h same =
    let x : (q.numerator *ℤ e) *ℤ d ≡ (q.numerator *ℤ d) *ℤ e = simp ring in
    let y : (n *ℤ pos q.denominator) *ℤ e ≡ (n *ℤ e) *ℤ pos q.denominator = simp ring in
    let z : (m *ℤ d) *ℤ pos q.denominator ≡ (m *ℤ pos q.denominator) *ℤ d = simp ring in
    record {
      positive = h;
      cross = mul-cancel_same _ _ d v.positive (x ∙ ap (λ t. t *ℤ e) v.cross ∙ y ∙ ap (λ t. t *ℤ pos q.denominator) same ∙ z);
    }

pub value_add : (p q : Rational) (n m d e : ℤ) → IsValue p n d → IsValue q m e → IsValue (p +ℚ q) (n *ℤ e +ℤ m *ℤ d) (d *ℤ e)
unfolding ◌+ℚ◌
value_add p q n m d e v w =
    let l = left_scaled p.numerator n (pos p.denominator) d e (pos q.denominator) v.cross in
    let r = right_scaled q.numerator m (pos p.denominator) d e (pos q.denominator) w.cross in
    let x : (p.numerator *ℤ pos q.denominator +ℤ q.numerator *ℤ pos p.denominator) *ℤ (d *ℤ e) ≡ (p.numerator *ℤ pos q.denominator) *ℤ (d *ℤ e) +ℤ (q.numerator *ℤ pos p.denominator) *ℤ (d *ℤ e) = simp ring in
    let y : (n *ℤ e) *ℤ (pos p.denominator *ℤ pos q.denominator) +ℤ (m *ℤ d) *ℤ (pos p.denominator *ℤ pos q.denominator) ≡ (n *ℤ e +ℤ m *ℤ d) *ℤ (pos p.denominator *ℤ pos q.denominator) = simp ring in
    value_also (p +ℚ q) _ _ (pos (p.denominator * q.denominator)) (d *ℤ e) (value_over _ _ (mul-pos p.lowest.positive q.lowest.positive)) (IsPositive-mul d e v.positive w.positive)
    (x ∙ ap₂ ◌+ℤ◌ l r ∙ y)

pub value_mul : (p q : Rational) (n m d e : ℤ) → IsValue p n d → IsValue q m e → IsValue (p *ℚ q) (n *ℤ m) (d *ℤ e)
unfolding ◌*ℚ◌
value_mul p q n m d e v w =
    let x : (p.numerator *ℤ q.numerator) *ℤ (d *ℤ e) ≡ (p.numerator *ℤ d) *ℤ (q.numerator *ℤ e) = simp ring in
    let y : (n *ℤ pos p.denominator) *ℤ (m *ℤ pos q.denominator) ≡ (n *ℤ m) *ℤ (pos p.denominator *ℤ pos q.denominator) = simp ring in
    value_also (p *ℚ q) _ _ (pos (p.denominator * q.denominator)) (d *ℤ e) (value_over _ _ (mul-pos p.lowest.positive q.lowest.positive)) (IsPositive-mul d e v.positive w.positive)
    (x ∙ ap (λ z. z *ℤ (q.numerator *ℤ e)) v.cross ∙ ap (λ z. (n *ℤ pos p.denominator) *ℤ z) w.cross ∙ y)

pub value_neg : (p : Rational) (n d : ℤ) → IsValue p n d → IsValue (neg_ℚ p) (neg_ℤ n) d
unfolding neg_ℚ
value_neg p n d v = record { positive = v.positive; cross = neg_mul p.numerator d ∙ ap neg_ℤ v.cross ∙ sym (neg_mul n (pos p.denominator)) }

-- what is in lowest terms stays as it is
pub over_lowest : (n : ℤ) (d : ℕ) (h : IsLowest n d) → over n d ≡ record { numerator = n; denominator = d; lowest = h }
over_lowest n d h = value_same _ _ _ _ _ _ (value_over n d h.positive) (value_self (record { numerator = n; denominator = d; lowest = h })) refl

pub over-self : (q : Rational) → over q.numerator q.denominator ≡ q
over-self q = over_lowest q.numerator q.denominator q.lowest
