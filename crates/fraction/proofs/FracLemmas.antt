-- What the parts of a fraction in lowest terms are to the number that it is.
use Rattle.std.proofs.Common.{zero, suc, one-mul, ◌≡◌, ◌∙◌, ℕ, ◌*◌, ◌<◌, ◌≤◌, ◌/◌, refl, sym, ap, arith, subst, mul-pos}
use Rattle.std.proofs.Math.Nat.{le_of_dvd, div-mul_cancel, dvd-mul_right}
use Rattle.std.specs.Prelude.{ℤ, pos, negsuc, ◌*ℤ◌, ◌+ℤ◌, neg_ℤ, unsigned_abs, int_div, int_lt, IsTrue}
use Rattle.std.specs.Int.{int_signum, IsGcd, ◌∣◌}
use Rattle.std.proofs.lemmas.Int.{ints, unsigned_abs-mul}
use Rattle.std.proofs.lemmas.Nat.Gcd.{same_from_IsGcd, IsGcd-swap}
use Rattle.integer.specs.Gcd.{gcd}
use Rattle.integer.specs.Lowest.{IsLowest}
use Rattle.integer.proofs.Laws.{ring, gcd_pos, lowest_over, lowest_whole, quot_scaled, abs_quot, gcd-is, coprime-quotients, coprime_mul, coprime_part}
use Rattle.rational.specs.Rational.{Rational, over, neg_ℚ, inv_ℚ, whole, ◌*ℚ◌, ◌+ℚ◌}
use Rattle.rational.proofs.Laws.{over_lowest, over-self, value_same, value_over, value_self, value_neg, value_mul, value_add, cross_scaled, positive_numerator, negative_numerator}
use Rattle.rational.specs.Compare.{is_positive, is_negative}
use Rattle.std.proofs.lemmas.Bool.Decides.{nat_tests}
use Rattle.fraction.specs.Fits.{fits, sum_fits, part_max, left_num, right_num, common_den}

pub over-numerator : (n : ℤ) (d : ℕ) → IsLowest n d → (over n d).numerator ≡ n
over-numerator n d h = ap (λ (q : Rational). q.numerator) (over_lowest n d h)

pub over-denominator : (n : ℤ) (d : ℕ) → IsLowest n d → (over n d).denominator ≡ d
over-denominator n d h = ap (λ (q : Rational). q.denominator) (over_lowest n d h)

pub gcd_some : (a b : ℕ) → 0 < b → 0 < gcd a b
gcd_some a b h = gcd_pos a b h

pub gcd_le : (a b : ℕ) → 0 < b → gcd a b ≤ b
gcd_le a b h = le_of_dvd h (gcd-is a b).1

pub quot_some : (a b : ℕ) → 0 < b → 0 < b / gcd a b
quot_some a b h = (lowest_over (pos a) b h).positive

pub over-quotients : (n : ℤ) (d : ℕ) → 0 < d → over (int_div n (pos (gcd (unsigned_abs n) d))) (d / gcd (unsigned_abs n) d) ≡ over n d
over-quotients n d h =
    let g = gcd-is (unsigned_abs n) d in
    value_same _ _ _ _ _ _ (value_over _ _ (quot_some (unsigned_abs n) d h)) (value_over n d h)
    (cross_scaled _ n _ d (gcd (unsigned_abs n) d) (quot_scaled n _ g.0) (div-mul_cancel _ g.1))

pub neg_over : (q : Rational) → over (neg_ℤ q.numerator) q.denominator ≡ neg_ℚ q
neg_over q = value_same _ _ _ _ _ _ (value_over _ _ q.lowest.positive) (value_neg _ _ _ (value_self q)) refl

pub whole_over : (n : ℤ) → over n 1 ≡ whole n
whole_over n = over-self (whole n)

-- ---- signs

pub positive_from : (q : Rational) (n : ℤ) → n ≡ q.numerator → int_lt (pos 0) n ≡ is_positive q
positive_from q n e = ap (int_lt (pos 0)) e ∙ positive_numerator q

pub negative_from : (q : Rational) (n : ℤ) → n ≡ q.numerator → int_lt n (pos 0) ≡ is_negative q
negative_from q n e = ap (λ z. int_lt z (pos 0)) e ∙ negative_numerator q

-- ---- products

abbrev pub product_num : Rational → Rational → ℤ
product_num p q = int_div p.numerator (pos (gcd (unsigned_abs p.numerator) q.denominator)) *ℤ int_div q.numerator (pos (gcd (unsigned_abs q.numerator) p.denominator))

abbrev pub product_den : Rational → Rational → ℕ
product_den p q = p.denominator / gcd (unsigned_abs q.numerator) p.denominator * (q.denominator / gcd (unsigned_abs p.numerator) q.denominator)

-- four numbers, each divided by what it has in common with another
coprime_parts : (a b c d g h : ℕ) → 0 < g → 0 < h → IsGcd a b 1 → IsGcd c d 1 → IsGcd a d g → IsGcd c b h → IsGcd (a / g * (c / h)) (b / h * (d / g)) 1
coprime_parts a b c d g h some more p q r s =
    let part_a : a / g ∣ a = subst (λ n. a / g ∣ n) (div-mul_cancel g r.0) (dvd-mul_right (a / g) g) in
    let part_c : c / h ∣ c = subst (λ n. c / h ∣ n) (div-mul_cancel h s.0) (dvd-mul_right (c / h) h) in
    let part_b : b / h ∣ b = subst (λ n. b / h ∣ n) (div-mul_cancel h s.1) (dvd-mul_right (b / h) h) in
    let part_d : d / g ∣ d = subst (λ n. d / g ∣ n) (div-mul_cancel g r.1) (dvd-mul_right (d / g) g) in
    let ab = IsGcd-swap _ _ 1 (coprime_part (b / h) b (a / g) part_b (IsGcd-swap _ _ 1 (coprime_part (a / g) a b part_a p))) in
    let ad = coprime-quotients a d g some r in
    let cb = coprime-quotients c b h more s in
    let cd = IsGcd-swap _ _ 1 (coprime_part (d / g) d (c / h) part_d (IsGcd-swap _ _ 1 (coprime_part (c / h) c d part_c q))) in
    let with_b = coprime_mul (a / g) (c / h) (b / h) ab cb in
    let with_d = coprime_mul (a / g) (c / h) (d / g) ad cd in
    IsGcd-swap _ _ 1 (coprime_mul (b / h) (d / g) (a / g * (c / h)) (IsGcd-swap _ _ 1 with_b) (IsGcd-swap _ _ 1 with_d))

pub coprime_of : (q : Rational) → IsGcd (unsigned_abs q.numerator) q.denominator 1
coprime_of q = subst (λ x. IsGcd (unsigned_abs q.numerator) q.denominator x) q.lowest.coprime (gcd-is (unsigned_abs q.numerator) q.denominator)

pub product_lowest : (p q : Rational) → IsLowest (product_num p q) (product_den p q)
product_lowest p q =
    let a = unsigned_abs p.numerator in
    let c = unsigned_abs q.numerator in
    let all = coprime_parts a p.denominator c q.denominator (gcd a q.denominator) (gcd c p.denominator) (gcd_some a q.denominator q.lowest.positive) (gcd_some c p.denominator p.lowest.positive) (coprime_of p) (coprime_of q) (gcd-is a q.denominator) (gcd-is c p.denominator) in
    let abs : unsigned_abs (product_num p q) ≡ a / gcd a q.denominator * (c / gcd c p.denominator) = rw (unsigned_abs-mul, abs_quot, abs_quot) refl in
    record {
      positive = mul-pos (quot_some c p.denominator p.lowest.positive) (quot_some a q.denominator q.lowest.positive);
      coprime = rw abs (same_from_IsGcd _ _ _ 1 (gcd-is _ _) all);
    }

product_cross : (a A c C b B d D g h : ℤ) → A *ℤ g ≡ a → C *ℤ h ≡ c → B *ℤ h ≡ b → D *ℤ g ≡ d → (A *ℤ C) *ℤ (b *ℤ d) ≡ (a *ℤ c) *ℤ (B *ℤ D)
product_cross a A c C b B d D g h e f i j = let k : (A *ℤ C) *ℤ ((B *ℤ h) *ℤ (D *ℤ g)) ≡ ((A *ℤ g) *ℤ (C *ℤ h)) *ℤ (B *ℤ D) = simp ring in rw (← e, ← f, ← i, ← j) k

pub product_over : (p q : Rational) → over (product_num p q) (product_den p q) ≡ p *ℚ q
product_over p q =
    let g = gcd-is (unsigned_abs p.numerator) q.denominator in
    let h = gcd-is (unsigned_abs q.numerator) p.denominator in
    value_same _ _ _ _ _ _ (value_over _ _ (product_lowest p q).positive) (value_mul _ _ _ _ _ _ (value_self p) (value_self q))
    (product_cross p.numerator _ q.numerator _ (pos p.denominator) (pos (p.denominator / gcd (unsigned_abs q.numerator) p.denominator)) (pos q.denominator) (pos (q.denominator / gcd (unsigned_abs p.numerator) q.denominator)) (pos (gcd (unsigned_abs p.numerator) q.denominator)) (pos (gcd (unsigned_abs q.numerator) p.denominator))
    (quot_scaled p.numerator _ g.0) (quot_scaled q.numerator _ h.0) (ap pos (div-mul_cancel _ h.1)) (ap pos (div-mul_cancel _ g.1)))

pub product-numerator : (p q : Rational) → (p *ℚ q).numerator ≡ product_num p q
product-numerator p q = ap (λ (r : Rational). r.numerator) (sym (product_over p q)) ∙ over-numerator _ _ (product_lowest p q)

pub product-denominator : (p q : Rational) → (p *ℚ q).denominator ≡ product_den p q
product-denominator p q = ap (λ (r : Rational). r.denominator) (sym (product_over p q)) ∙ over-denominator _ _ (product_lowest p q)

-- ---- sums

sum_cross : (a b c d g B D : ℤ) → B *ℤ g ≡ b → D *ℤ g ≡ d → (a *ℤ D +ℤ c *ℤ B) *ℤ (b *ℤ d) ≡ (a *ℤ d +ℤ c *ℤ b) *ℤ (b *ℤ D)
sum_cross a b c d g B D e f = let k : (a *ℤ D +ℤ c *ℤ B) *ℤ ((B *ℤ g) *ℤ (D *ℤ g)) ≡ (a *ℤ (D *ℤ g) +ℤ c *ℤ (B *ℤ g)) *ℤ ((B *ℤ g) *ℤ D) = simp ring in rw (← e, ← f) k

pub common_some : (p q : Rational) → 0 < common_den p q
common_some p q = mul-pos p.lowest.positive (quot_some p.denominator q.denominator q.lowest.positive)

pub sum_over : (p q : Rational) → over (left_num p q +ℤ right_num p q) (common_den p q) ≡ p +ℚ q
sum_over p q =
    let g = gcd-is p.denominator q.denominator in
    value_same _ _ _ _ _ _ (value_over _ _ (common_some p q)) (value_add _ _ _ _ _ _ (value_self p) (value_self q))
    (sum_cross p.numerator (pos p.denominator) q.numerator (pos q.denominator) (pos (gcd p.denominator q.denominator)) (pos (p.denominator / gcd p.denominator q.denominator)) (pos (q.denominator / gcd p.denominator q.denominator))
    (ap pos (div-mul_cancel _ g.0)) (ap pos (div-mul_cancel _ g.1)))

pub neg_from : (q r : Rational) (n : ℤ) (d : ℕ) → r ≡ over n d → n ≡ neg_ℤ q.numerator → d ≡ q.denominator → r ≡ neg_ℚ q
neg_from q r n d e f g = rw (e, f, g) (neg_over q)

pub lowest_from : (p q : Rational) (n : ℤ) (d : ℕ) → n ≡ product_num p q → d ≡ product_den p q → IsLowest n d
lowest_from p q n d e f = rw (e, f) (product_lowest p q)

pub fits_from : (q : Rational) → unsigned_abs q.numerator ≤ part_max → q.denominator ≤ part_max → IsTrue (fits q)
fits_from q h k = grind (arith, nat_tests)

pub product_from : (p q r : Rational) (n : ℤ) (d : ℕ) → n ≡ product_num p q → d ≡ product_den p q → unsigned_abs n ≤ part_max → d ≤ part_max → r ≡ over n d → IsTrue (fits (p *ℚ q)) × (r ≡ p *ℚ q)
product_from p q r n d e f h k g =
    let numerator : unsigned_abs (p *ℚ q).numerator ≤ part_max = rw (product-numerator p q, ← e) h in
    let denominator : (p *ℚ q).denominator ≤ part_max = rw (product-denominator p q, ← f) k in
    (fits_from (p *ℚ q) numerator denominator, rw (g, e, f) (product_over p q))

pub sum_from : (p q r : Rational) (a b n : ℤ) (d : ℕ) → a ≡ left_num p q → b ≡ right_num p q → n ≡ a +ℤ b → d ≡ common_den p q
    → unsigned_abs a ≤ part_max → unsigned_abs b ≤ part_max → unsigned_abs n ≤ part_max → d ≤ part_max → r ≡ over n d → IsTrue (sum_fits p q) × (r ≡ p +ℚ q)
sum_from p q r a b n d e f g i h k l m o =
    let x : unsigned_abs (left_num p q) ≤ part_max = rw (← e) h in
    let y : unsigned_abs (right_num p q) ≤ part_max = rw (← f) k in
    let z : unsigned_abs (left_num p q +ℤ right_num p q) ≤ part_max = rw (← e, ← f, ← g) l in
    let w : common_den p q ≤ part_max = rw (← i) m in
    (grind (arith, nat_tests), rw (o, g, e, f, i) (sum_over p q))

pub sum_not : (p q : Rational) (a b : ℤ) → a ≡ left_num p q → b ≡ right_num p q → ¬ (unsigned_abs (a +ℤ b) ≤ part_max) → ¬ (IsTrue (sum_fits p q))
sum_not p q a b e f n t =
    let x : unsigned_abs (left_num p q +ℤ right_num p q) ≤ part_max = grind (arith, nat_tests) in
    n (rw (e, f) x)

abs_signum : (n : ℤ) → ¬ (n ≡ pos 0) → unsigned_abs (int_signum n) ≡ 1
abs_signum (pos zero) h = absurd (h refl)
abs_signum (pos (suc n)) h = omega arith
abs_signum (negsuc n) h = refl

pub lowest_inverse : (q : Rational) → ¬ (q.numerator ≡ pos 0) → IsLowest (int_signum q.numerator *ℤ pos q.denominator) (unsigned_abs q.numerator)
lowest_inverse q h =
    let e : unsigned_abs (int_signum q.numerator *ℤ pos q.denominator) ≡ q.denominator = unsigned_abs-mul (int_signum q.numerator) (pos q.denominator) ∙ ap (λ n. n * q.denominator) (abs_signum q.numerator h) ∙ one-mul q.denominator in
    record {
      positive = omega (arith, ints);
      coprime = rw e (same_from_IsGcd _ _ _ 1 (gcd-is q.denominator (unsigned_abs q.numerator)) (IsGcd-swap _ _ 1 (coprime_of q)));
    }

pub inverse_over : (q : Rational) → over (int_signum q.numerator *ℤ pos q.denominator) (unsigned_abs q.numerator) ≡ inv_ℚ q
unfolding inv_ℚ
inverse_over q = refl

pub inverse_from : (q r : Rational) (n : ℤ) (d : ℕ) → r ≡ over n d → n ≡ int_signum q.numerator *ℤ pos q.denominator → d ≡ unsigned_abs q.numerator → r ≡ inv_ℚ q
inverse_from q r n d e f g = rw (e, f, g) (inverse_over q)

pub ruleset inverse_lemmas = (lowest_inverse, inverse_over)

pub ruleset frac_lemmas = (over-numerator, over-denominator, gcd_some, gcd_le, quot_some, whole_over, neg_over, lowest_whole, over-quotients, lowest_over, product-numerator, product-denominator, product_over, product_lowest, sum_over, common_some)
