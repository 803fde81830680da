-- Greatest common divisors by halving: a power of 2 has nothing in common with an odd number.
use Rattle.std.proofs.Common.{zero, suc, ◌≡◌, ◌∙◌, ℕ, ◌*◌, ◌+◌, ◌-◌, ◌<◌, ◌≤◌, ◌/◌, ◌%◌, ◌^◌, refl, sym, ap, arith, subst, pow-suc, mul_assoc, mul-pos, lit≤}
use Rattle.std.proofs.Math.Nat.{dvd-add, dvd-sub, dvd-mul_right_of_dvd, one-dvd, mul-div_cancel}
use Rattle.std.specs.Int.{IsGcd, ◌∣◌}
use Rattle.std.specs.Int.Count.{count_trailing_zeros}
use lib.Count.{under}
use Rattle.std.proofs.lemmas.Nat.Gcd.{same_from_IsGcd, IsGcd-swap}
use Rattle.integer.specs.Gcd.{gcd}
use Rattle.integer.proofs.Laws.{gcd-is, gcd_step, gcd_end, coprime_mul, coprime_part, dvd_from_coprime, IsGcd-scaled}
use Rattle.fraction.proofs.CmpLemmas.{gcd-one}
use Rattle.fraction.proofs.FracLemmas.{gcd_le}

odd_two : (y : ℕ) → y % 2 ≡ 1 → IsGcd 2 y 1
odd_two y h =
    let e : gcd y 2 ≡ 1 = sym (gcd_step y 2) ∙ ap (λ n. gcd 2 n) h ∙ sym (gcd-one 2) in
    IsGcd-swap _ _ 1 (subst (λ n. IsGcd y 2 n) e (gcd-is y 2))

odd_power : (k y : ℕ) → y % 2 ≡ 1 → IsGcd (2 ^ k) y 1
odd_power zero y h = (one-dvd 1, one-dvd y, λ d p q. p)
odd_power (suc k) y h = subst (λ n. IsGcd n y 1) (sym (pow-suc 2 k)) (coprime_mul (2 ^ k) 2 y (odd_power k y h) (odd_two y h))

-- a power of 2 leaves the divisor that is shared with an odd number
pub drop_power : (x m k : ℕ) → x % 2 ≡ 1 → gcd x (m * 2 ^ k) ≡ gcd x m
drop_power x m k h =
    let is = gcd-is x m in
    let turned : (d : ℕ) → d ∣ m * 2 ^ k → d ∣ 2 ^ k * m = λ d p. subst (λ n. d ∣ n) (omega arith) p in
    same_from_IsGcd x (m * 2 ^ k) _ _ (gcd-is x (m * 2 ^ k))
    (is.0, dvd-mul_right_of_dvd (gcd x m) is.1 (2 ^ k), λ d p q. is.2 d p (dvd_from_coprime d (2 ^ k) m (coprime_part d x (2 ^ k) p (IsGcd-swap _ _ 1 (odd_power k x h))) (turned d q)))

-- the difference has the same divisors in common
pub less_same : (x y : ℕ) → y ≤ x → gcd y (x - y) ≡ gcd x y
less_same x y h =
    let is = gcd-is x y in
    let back : x - y + y ≡ x = omega arith in
    same_from_IsGcd y (x - y) _ _ (gcd-is y (x - y)) (is.1, dvd-sub (gcd x y) is.0 is.1, λ d p q. is.2 d (subst (λ n. d ∣ n) back (dvd-add d q p)) p)

pub gcd-swap : (x y : ℕ) → gcd x y ≡ gcd y x
gcd-swap x y = same_from_IsGcd x y _ _ (gcd-is x y) (IsGcd-swap _ _ _ (gcd-is y x))

pub gcd_twice : (x y : ℕ) → gcd (x * 2) (y * 2) ≡ gcd x y * 2
gcd_twice x y = same_from_IsGcd _ _ _ _ (gcd-is (x * 2) (y * 2)) (IsGcd-scaled x y 2 (gcd x y) (gcd-is x y))

-- a number is an odd one times the power of 2 of the zeros at its end
double : (n m p : ℕ) → n % 2 ≡ 0 → n / 2 ≡ m * p → n ≡ m * (p * 2)
double n m p e h = let whole : n ≡ n / 2 * 2 = omega arith in whole ∙ ap (λ x. x * 2) h ∙ mul_assoc m p 2

odd_by : (n t r : ℕ) → n % 2 ≡ r → (r ≡ 0 → (q : ℕ) × (n / 2 ≡ q * 2 ^ t) × (q % 2 ≡ 1)) → (q : ℕ) × (n ≡ q * 2 ^ under r t) × (q % 2 ≡ 1)
odd_by n t zero e half = let q = half refl in (q.0, double n q.0 (2 ^ t) e q.1 ∙ ap (λ x. q.0 * x) (sym (pow-suc 2 t)), q.2)
odd_by n t (suc r) e half = (n, omega arith, omega arith)

odd_times : (k n : ℕ) → 0 < n → n < 2 ^ k → (q : ℕ) × (n ≡ q * 2 ^ count_trailing_zeros k n) × (q % 2 ≡ 1)
unfolding count_trailing_zeros
odd_times zero n some small = absurd (omega arith)
odd_times (suc k) n some small =
    let room : n < 2 ^ k * 2 = rw (pow-suc 2 k) at small in
    odd_by n (count_trailing_zeros k (n / 2)) (n % 2) refl (λ even. odd_times k (n / 2) (omega arith) (omega arith))

two_some : (k : ℕ) → 0 < 2 ^ k
two_some zero = lit≤ tt
two_some (suc k) = rw pow-suc (mul-pos (two_some k) (lit≤ tt))

pub odd_part_of : (k n : ℕ) → 0 < n → n < 2 ^ k → (n ≡ n / 2 ^ count_trailing_zeros k n * 2 ^ count_trailing_zeros k n) × ((n / 2 ^ count_trailing_zeros k n) % 2 ≡ 1)
odd_part_of k n some small =
    let q = odd_times k n some small in
    let t = count_trailing_zeros k n in
    let e : n / 2 ^ t ≡ q.0 = ap (λ x. x / 2 ^ t) q.1 ∙ mul-div_cancel q.0 (two_some t) in
    (q.1 ∙ ap (λ x. x * 2 ^ t) (sym e), ap (λ x. x % 2) e ∙ q.2)

pub same_odd : (x n m k : ℕ) → x % 2 ≡ 1 → n ≡ m * 2 ^ k → gcd x m ≡ gcd x n
same_odd x n m k h e = sym (drop_power x m k h) ∙ ap (gcd x) (sym e)

-- the steps of the code
pub zero_gcd : (a b : ℕ) → a ≡ 0 → b ≡ gcd a b
zero_gcd a b e = sym (ap (λ n. gcd n b) e ∙ gcd-swap 0 b ∙ gcd_end b)

pub both_even : (a b g : ℕ) → a % 2 ≡ 0 → b % 2 ≡ 0 → g ≡ gcd (a / 2) (b / 2) → 2 * g ≡ gcd a b
both_even a b g e f h =
    let left : a / 2 * 2 ≡ a = omega arith in
    let right : b / 2 * 2 ≡ b = omega arith in
    let twice : 2 * g ≡ g * 2 = omega arith in
    twice ∙ ap (λ x. x * 2) h ∙ sym (gcd_twice (a / 2) (b / 2)) ∙ ap (λ x. gcd x (b / 2 * 2)) left ∙ ap (gcd a) right

pub half_fits : (a b g : ℕ) → 0 < a → a % 2 ≡ 0 → g ≡ gcd (a / 2) (b / 2) → 2 * g ≤ a
half_fits a b g some e h =
    let less : gcd (b / 2) (a / 2) ≤ a / 2 = gcd_le (b / 2) (a / 2) (omega arith) in
    let same : g ≡ gcd (b / 2) (a / 2) = h ∙ gcd-swap (a / 2) (b / 2) in
    omega arith
