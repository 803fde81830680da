-- A sum that `add` can make fits.
use Rattle.std.proofs.Common.{◌≡◌, ◌∙◌, ℕ, ◌<◌, ◌≤◌, ◌/◌, refl, sym, ap, arith, subst, Bool, true, false}
use Rattle.std.proofs.Math.Nat.{div-le_self}
use Rattle.std.proofs.lemmas.Bool.Decides.{nat_tests}
use Rattle.std.specs.Prelude.{ℤ, pos, ◌+ℤ◌, unsigned_abs, int_div, IsTrue}
use Rattle.integer.specs.Gcd.{gcd}
use Rattle.integer.proofs.Laws.{lowest_over, abs_quot}
use Rattle.rational.specs.Rational.{Rational, over, ◌+ℚ◌}
use Rattle.fraction.specs.Fits.{fits, sum_fits, part_max, left_num, right_num, common_den}
use Rattle.fraction.proofs.FracLemmas.{over-numerator, over-denominator, over-quotients, fits_from, sum_over, common_some}

pub over_size : (n : ℤ) (d : ℕ) → 0 < d → (unsigned_abs (over n d).numerator ≤ unsigned_abs n) × ((over n d).denominator ≤ d)
over_size n d h =
    let g = gcd (unsigned_abs n) d in
    let num : (over n d).numerator ≡ int_div n (pos g) = ap (λ (q : Rational). q.numerator) (sym (over-quotients n d h)) ∙ over-numerator _ _ (lowest_over n d h) in
    let den : (over n d).denominator ≡ d / g = ap (λ (q : Rational). q.denominator) (sym (over-quotients n d h)) ∙ over-denominator _ _ (lowest_over n d h) in
    (rw (num, abs_quot) (div-le_self (unsigned_abs n) g), rw den (div-le_self d g))

-- a sum that `add` can make fits
pub sums_fit : (p q : Rational) → IsTrue (sum_fits p q) → IsTrue (fits (p +ℚ q))
sums_fit p q h =
    let size = over_size (left_num p q +ℤ right_num p q) (common_den p q) (common_some p q) in
    let top : unsigned_abs (left_num p q +ℤ right_num p q) ≤ part_max = grind (arith, nat_tests) in
    let low : common_den p q ≤ part_max = grind (arith, nat_tests) in
    subst (λ r. IsTrue (fits r)) (sum_over p q) (fits_from (over (left_num p q +ℤ right_num p q) (common_den p q)) (omega (arith, size.0)) (omega (arith, size.1)))

pub sum_false : (p q : Rational) → fits (p +ℚ q) ≡ false → sum_fits p q ≡ false
sum_false p q h = by (sum_fits p q) (sums_fit p q)
  where
    by : (b : Bool) → (IsTrue b → IsTrue (fits (p +ℚ q))) → b ≡ false
    by true f = let t = f refl in cc
    by false f = refl
