-- A sum over the least common denominator has nothing in common with it but what the two denominators have in common.
use Rattle.std.proofs.Common.{◌≡◌, ◌∙◌, ℕ, ◌*◌, ◌+◌, ◌<◌, ◌≤◌, ◌/◌, refl, sym, ap, arith, subst, Bool, true, false, nat_le}
use Rattle.std.proofs.Math.Nat.{dvd-add, dvd-add_iff_left, dvd-add_iff_right, dvd-mul_left, dvd-mul_right, dvd-mul_right_of_dvd, dvd_trans, one-dvd, div-mul_cancel, mul-div_cancel}
use Rattle.std.proofs.lemmas.Bool.Decides.{nat_tests}
use Rattle.std.proofs.lemmas.Int.{ints, unsigned_abs-mul}
use Rattle.std.proofs.lemmas.Nat.Gcd.{same_from_IsGcd, IsGcd-swap}
use Rattle.std.specs.Prelude.{ℤ, pos, ◌*ℤ◌, ◌+ℤ◌, ◌==◌, unsigned_abs, int_div, IsTrue}
use Rattle.std.specs.Int.{IsGcd, ◌∣◌}
use Rattle.integer.specs.Gcd.{gcd}
use Rattle.integer.specs.Lowest.{IsLowest}
use Rattle.integer.proofs.Laws.{ring, abs_quot, quot_scaled, gcd-is, coprime-quotients, coprime_mul, coprime_part}
use Rattle.rational.specs.Rational.{Rational, over, ◌+ℚ◌}
use Rattle.rational.proofs.Laws.{value_same, value_over, cross_scaled}
use Rattle.fraction.specs.Fits.{sum_fits, part_max, left_num, right_num, common_den, left_scale}
use Rattle.fraction.proofs.FracLemmas.{gcd_some, coprime_of, common_some, sum_over, sum_from}
use Rattle.fraction.proofs.ReadLemmas.{some_part}

-- what divides a sum and one of its terms divides the other
abs_divides : (e : ℕ) (x y : ℤ) (b c : Bool) → (unsigned_abs (x +ℤ y) == unsigned_abs x + unsigned_abs y) ≡ b → nat_le (unsigned_abs y) (unsigned_abs x) ≡ c
    → e ∣ unsigned_abs (x +ℤ y) → e ∣ unsigned_abs y → e ∣ unsigned_abs x
abs_divides e x y true c f g h k =
    let all : unsigned_abs (x +ℤ y) ≡ unsigned_abs x + unsigned_abs y = grind (arith, nat_tests) in
    (dvd-add_iff_left e k).1 (subst (λ n. e ∣ n) all h)
abs_divides e x y false true f g h k =
    let differ : ¬ (unsigned_abs (x +ℤ y) ≡ unsigned_abs x + unsigned_abs y) = grind (arith, nat_tests) in
    let order : unsigned_abs y ≤ unsigned_abs x = grind (arith, nat_tests) in
    let all : unsigned_abs (x +ℤ y) + unsigned_abs y ≡ unsigned_abs x = omega (arith, ints) in
    subst (λ n. e ∣ n) all (dvd-add e h k)
abs_divides e x y false false f g h k =
    let differ : ¬ (unsigned_abs (x +ℤ y) ≡ unsigned_abs x + unsigned_abs y) = grind (arith, nat_tests) in
    let order : unsigned_abs x ≤ unsigned_abs y = grind (arith, nat_tests) in
    let all : unsigned_abs y ≡ unsigned_abs (x +ℤ y) + unsigned_abs x = omega (arith, ints) in
    (dvd-add_iff_right e h).1 (subst (λ n. e ∣ n) all k)

coprime_sum : (x y : ℤ) (z : ℕ) → IsGcd (unsigned_abs x) z 1 → z ∣ unsigned_abs y → IsGcd (unsigned_abs (x +ℤ y)) z 1
coprime_sum x y z p d = (one-dvd _, one-dvd z, λ e h k. p.2 e (abs_divides e x y _ _ refl refl h (dvd_trans e k d)) k)

quotient_divides : (b g : ℕ) → g ∣ b → b / g ∣ b
quotient_divides b g h = subst (λ n. b / g ∣ n) (div-mul_cancel g h) (dvd-mul_right (b / g) g)

-- one of the two quotients of the denominators has nothing in common with the sum
side : (a c : ℤ) (b d g : ℕ) → 0 < g → IsGcd (unsigned_abs a) b 1 → IsGcd b d g → IsGcd (unsigned_abs (a *ℤ pos (d / g) +ℤ c *ℤ pos (b / g))) (b / g) 1
side a c b d g some p q =
    let front : IsGcd (unsigned_abs a) (b / g) 1 = IsGcd-swap _ _ 1 (coprime_part (b / g) b (unsigned_abs a) (quotient_divides b g q.0) (IsGcd-swap _ _ 1 p)) in
    let back : IsGcd (d / g) (b / g) 1 = IsGcd-swap _ _ 1 (coprime-quotients b d g some q) in
    let left : IsGcd (unsigned_abs (a *ℤ pos (d / g))) (b / g) 1 = subst (λ n. IsGcd n (b / g) 1) (sym (unsigned_abs-mul a (pos (d / g)))) (coprime_mul (unsigned_abs a) (d / g) (b / g) front back) in
    let right : b / g ∣ unsigned_abs (c *ℤ pos (b / g)) = subst (λ n. b / g ∣ n) (sym (unsigned_abs-mul c (pos (b / g)))) (dvd-mul_left (b / g) (unsigned_abs c)) in
    coprime_sum (a *ℤ pos (d / g)) (c *ℤ pos (b / g)) (b / g) left right

add_swap : (x y : ℤ) → x +ℤ y ≡ y +ℤ x
add_swap x y = simp ring

parts_of_den : (B D k h : ℕ) → 0 < h → (B * (k * h)) * D / h ≡ B * D * k
parts_of_den B D k h some = let e : (B * (k * h)) * D ≡ B * D * k * h = omega arith in ap (λ n. n / h) e ∙ mul-div_cancel (B * D * k) some

coprime_den : (t B D g h : ℕ) → 0 < h → IsGcd t g h → IsGcd t B 1 → IsGcd t D 1 → IsGcd (t / h) (B * D * (g / h)) 1
coprime_den t B D g h some p q r =
    let small = quotient_divides t h p.0 in
    let first = IsGcd-swap _ _ 1 (coprime_part (t / h) t B small q) in
    let second = IsGcd-swap _ _ 1 (coprime_part (t / h) t D small r) in
    let third = IsGcd-swap _ _ 1 (coprime-quotients t g h some p) in
    IsGcd-swap _ _ 1 (coprime_mul (B * D) (g / h) (t / h) (coprime_mul B D (t / h) first second) third)

abbrev pub sum_of : Rational → Rational → ℤ
sum_of p q = left_num p q +ℤ right_num p q

abbrev pub shared : Rational → Rational → ℕ
shared p q = gcd (unsigned_abs (sum_of p q)) (gcd p.denominator q.denominator)

shared_some : (p q : Rational) → 0 < shared p q
shared_some p q = gcd_some (unsigned_abs (sum_of p q)) (gcd p.denominator q.denominator) (gcd_some p.denominator q.denominator q.lowest.positive)

shared_divides : (p q : Rational) → shared p q ∣ common_den p q
shared_divides p q =
    let g = gcd-is p.denominator q.denominator in
    let h = gcd-is (unsigned_abs (sum_of p q)) (gcd p.denominator q.denominator) in
    dvd-mul_right_of_dvd (shared p q) (dvd_trans (shared p q) h.1 g.0) (left_scale p q)

den_is : (p q : Rational) → common_den p q / shared p q ≡ p.denominator / gcd p.denominator q.denominator * left_scale p q * (gcd p.denominator q.denominator / shared p q)
den_is p q =
    let g = gcd-is p.denominator q.denominator in
    let h = gcd-is (unsigned_abs (sum_of p q)) (gcd p.denominator q.denominator) in
    let whole : p.denominator ≡ p.denominator / gcd p.denominator q.denominator * (gcd p.denominator q.denominator / shared p q * shared p q) =
    sym (div-mul_cancel _ g.0) ∙ ap (λ n. p.denominator / gcd p.denominator q.denominator * n) (sym (div-mul_cancel _ h.1)) in
    ap (λ n. n * left_scale p q / shared p q) whole ∙ parts_of_den _ _ _ _ (shared_some p q)

pub sum_lowest : (p q : Rational) → IsLowest (int_div (sum_of p q) (pos (shared p q))) (common_den p q / shared p q)
sum_lowest p q =
    let g = gcd-is p.denominator q.denominator in
    let h = gcd-is (unsigned_abs (sum_of p q)) (gcd p.denominator q.denominator) in
    let some = gcd_some p.denominator q.denominator q.lowest.positive in
    let left = side p.numerator q.numerator p.denominator q.denominator (gcd p.denominator q.denominator) some (coprime_of p) g in
    let turned = side q.numerator p.numerator q.denominator p.denominator (gcd p.denominator q.denominator) some (coprime_of q) (IsGcd-swap _ _ _ g) in
    let right = subst (λ z. IsGcd (unsigned_abs z) (q.denominator / gcd p.denominator q.denominator) 1) (add_swap (right_num p q) (left_num p q)) turned in
    let all = coprime_den (unsigned_abs (sum_of p q)) _ _ _ (shared p q) (shared_some p q) h left right in
    record {
      positive = some_part _ (shared p q) (common_den p q) (div-mul_cancel _ (shared_divides p q)) (common_some p q);
      coprime = rw (abs_quot, den_is p q) (same_from_IsGcd _ _ _ 1 (gcd-is _ _) all);
    }

pub sum_shared : (p q : Rational) → over (int_div (sum_of p q) (pos (shared p q))) (common_den p q / shared p q) ≡ p +ℚ q
sum_shared p q =
    let h = gcd-is (unsigned_abs (sum_of p q)) (gcd p.denominator q.denominator) in
    value_same _ _ _ _ _ _ (value_over _ _ (sum_lowest p q).positive) (value_over (sum_of p q) (common_den p q) (common_some p q))
    (cross_scaled _ (sum_of p q) _ (common_den p q) (shared p q) (quot_scaled _ _ h.0) (div-mul_cancel _ (shared_divides p q)))
    ∙ sum_over p q

pub lowest_shared : (p q : Rational) (n z : ℤ) (d e g h : ℕ) → n ≡ sum_of p q → d ≡ common_den p q → g ≡ gcd p.denominator q.denominator → h ≡ gcd (unsigned_abs n) g → z ≡ int_div n (pos h) → e ≡ d / h → IsLowest z e
lowest_shared p q n z d e g h sum den common both num low = rw (num, low, both, common, sum, den) (sum_lowest p q)

pub over_shared : (p q r : Rational) (n z : ℤ) (d e g h : ℕ) → n ≡ sum_of p q → d ≡ common_den p q → g ≡ gcd p.denominator q.denominator → h ≡ gcd (unsigned_abs n) g → z ≡ int_div n (pos h) → e ≡ d / h → r ≡ over z e → r ≡ p +ℚ q
over_shared p q r n z d e g h sum den common both num low is = rw (is, num, low, both, common, sum, den) (sum_shared p q)

pub add_from : (p q : Rational) (a b n : ℤ) (d : ℕ) → a ≡ left_num p q → b ≡ right_num p q → n ≡ a +ℤ b → d ≡ common_den p q
    → unsigned_abs a ≤ part_max → unsigned_abs b ≤ part_max → unsigned_abs n ≤ part_max → d ≤ part_max → IsTrue (sum_fits p q) × (n ≡ sum_of p q)
add_from p q a b n d e f g i h k l m =
    let both : n ≡ sum_of p q = g ∙ ap (λ x. x +ℤ b) e ∙ ap (λ x. left_num p q +ℤ x) f in
    let made = sum_from p q (over n d) a b n d e f g i h k l m refl in
    (made.0, both)
