use Rattle.std.proofs.Common.{◌≡◌, ◌∙◌, ℕ, zero, suc, ◌*◌, ◌<◌, ◌/◌, refl, sym, ap, subst, arith}
use Rattle.std.specs.Prelude.{ℤ, pos, negsuc, ◌*ℤ◌, neg_ℤ, unsigned_abs, int_div}
use Rattle.std.proofs.Math.Nat.{eq-one_of_dvd-one, div-mul_cancel, dvd_antisymm, pos_of_dvd_of_pos, le-div_iff_mul-le, one-mul, le_of_dvd, dvd-mul_left}
use Rattle.std.proofs.lemmas.Nat.Gcd.{same_from_IsGcd, IsGcd-swap}
use Rattle.std.specs.Int.{IsGcd, ◌∣◌}
use Rattle.std.proofs.lemmas.Int.{unsigned_abs-mul}
use Rattle.integer.specs.Gcd.{gcd}
use Rattle.integer.specs.Lowest.{IsLowest}
use Rattle.integer.proofs.GcdLaws.{gcd-is, coprime-quotients, dvd_from_coprime}
use Rattle.integer.proofs.IntRing.{mul_pos-cancel_same, neg_mul}

pub gcd_pos : (a d : ℕ) → 0 < d → 0 < gcd a d
gcd_pos a d p = pos_of_dvd_of_pos (gcd-is a d).1 p

abs_neg : (n : ℕ) → unsigned_abs (neg_ℤ (pos n)) ≡ n
abs_neg zero = refl
abs_neg (suc n) = refl

pub abs_quot : (n : ℤ) (g : ℕ) → unsigned_abs (int_div n (pos g)) ≡ unsigned_abs n / g
abs_quot (pos a) g = refl
abs_quot (negsuc a) g = abs_neg (suc a / g)

pub lowest_over : (n : ℤ) (d : ℕ) → 0 < d → IsLowest (int_div n (pos (gcd (unsigned_abs n) d))) (d / gcd (unsigned_abs n) d)
lowest_over n d p =
    let g = gcd (unsigned_abs n) d in
    let some : 0 < g = gcd_pos (unsigned_abs n) d p in
    let q = coprime-quotients (unsigned_abs n) d g some (gcd-is (unsigned_abs n) d) in
    record {
      positive = (le-div_iff_mul-le {k = g} {x = 1} {y = d} some).1 (omega (arith, one-mul g, le_of_dvd p (gcd-is (unsigned_abs n) d).1));
      coprime = rw (abs_quot n g) (same_from_IsGcd _ _ _ 1 (gcd-is (unsigned_abs n / g) (d / g)) q);
    }

-- the parts of a whole number divided by one that divides it
pub quot_scaled : (n : ℤ) (g : ℕ) → g ∣ unsigned_abs n → int_div n (pos g) *ℤ pos g ≡ n
quot_scaled (pos a) g h = ap pos (div-mul_cancel g h)
quot_scaled (negsuc a) g h = neg_mul (pos (suc a / g)) (pos g) ∙ ap (λ (n : ℕ). neg_ℤ (pos n)) (div-mul_cancel g h)

coprime_swapped : (a : ℤ) (b : ℕ) → IsLowest a b → IsGcd b (unsigned_abs a) 1
coprime_swapped a b p = IsGcd-swap (unsigned_abs a) b 1 (subst (λ x. IsGcd (unsigned_abs a) b x) p.coprime (gcd-is (unsigned_abs a) b))

-- one value has one form in lowest terms
pub same_lowest : (a c : ℤ) (b d : ℕ) → IsLowest a b → IsLowest c d → a *ℤ pos d ≡ c *ℤ pos b → (a ≡ c) × (b ≡ d)
same_lowest a c b d p q e =
    let abs : unsigned_abs a * d ≡ unsigned_abs c * b = sym (unsigned_abs-mul a (pos d)) ∙ ap unsigned_abs e ∙ unsigned_abs-mul c (pos b) in
    let left : b ∣ d = dvd_from_coprime b (unsigned_abs a) d (coprime_swapped a b p) (subst (λ x. b ∣ x) (sym abs) (dvd-mul_left b (unsigned_abs c))) in
    let right : d ∣ b = dvd_from_coprime d (unsigned_abs c) b (coprime_swapped c d q) (subst (λ x. d ∣ x) abs (dvd-mul_left d (unsigned_abs a))) in
    let denominator : b ≡ d = dvd_antisymm left right in
    (mul_pos-cancel_same a c d q.positive (e ∙ ap (λ x. c *ℤ pos x) denominator), denominator)

pub lowest_whole : (n : ℤ) → IsLowest n 1
lowest_whole n = record { positive = omega arith; coprime = eq-one_of_dvd-one (gcd-is (unsigned_abs n) 1).1 }

pub lowest_neg : (n : ℤ) (d : ℕ) → IsLowest n d → IsLowest (neg_ℤ n) d
lowest_neg n d h = record { positive = h.positive; coprime = rw (abs_of_neg n) h.coprime }
  where
    abs_of_neg : (n : ℤ) → unsigned_abs (neg_ℤ n) ≡ unsigned_abs n
    abs_of_neg (pos zero) = refl
    abs_of_neg (pos (suc n)) = refl
    abs_of_neg (negsuc n) = refl
