-- The order of two quotients, by their whole parts and then by what is left.
use Rattle.std.proofs.Common.{◌≡◌, ◌∙◌, ℕ, ◌*◌, ◌+◌, ◌<◌, ◌≤◌, ◌/◌, ◌%◌, ap, sym, arith, mul-le-mul_right, mul-lt-mul_of_pos_right, div-add-mod', mod-lt, mul-pos, ◌⊎◌, inl, inr}
use Rattle.std.proofs.lemmas.Bool.Decides.{nat_tests}
use Rattle.std.specs.Ordering.{nat_cmp}
use Rattle.std.proofs.Math.Nat.{one-dvd}
use Rattle.std.proofs.lemmas.Nat.Gcd.{same_from_IsGcd}
use Rattle.integer.specs.Gcd.{gcd}
use Rattle.integer.proofs.Laws.{gcd-is}

pub same_cmp : (x y u v : ℕ) → (x < y → u < v) → (x ≡ y → u ≡ v) → (y < x → v < u) → nat_cmp x y ≡ nat_cmp u v
same_cmp x y u v f g h = grind (arith, nat_tests)

below : (a b c d q p : ℕ) → 0 < b → 0 < d → a < (q + 1) * b → p * d ≤ c → q < p → a * d < c * b
below a b c d q p h k l m n =
    let e : a * d < (q + 1) * b * d = mul-lt-mul_of_pos_right l k in
    let f : (q + 1) * (b * d) ≤ p * (b * d) = mul-le-mul_right (b * d) (omega arith) in
    let g : p * d * b ≤ c * b = mul-le-mul_right b m in
    omega arith

pub by_quotients : (a b c d : ℕ) → 0 < b → 0 < d → ¬ (a / b ≡ c / d) → nat_cmp (a / b) (c / d) ≡ nat_cmp (a * d) (c * b)
by_quotients a b c d h k n =
    same_cmp (a / b) (c / d) (a * d) (c * b)
    (λ l. below a b c d (a / b) (c / d) h k (above a b h) (under c d) l)
    (λ e. absurd (n e))
    (λ l. below c d a b (c / d) (a / b) k h (above c d k) (under a b) l)
  where
    above : (a b : ℕ) → 0 < b → a < (a / b + 1) * b
    above a b h = omega (arith, div-add-mod' a b, mod-lt a h)

    under : (c d : ℕ) → c / d * d ≤ c
    under c d = omega (arith, div-add-mod' c d)

pub by_rests : (a b c d : ℕ) → a / b ≡ c / d → nat_cmp (a % b * d) (c % d * b) ≡ nat_cmp (a * d) (c * b)
by_rests a b c d e =
    let x : (a / b * b + a % b) * d ≡ a * d = ap (λ n. n * d) (div-add-mod' a b) in
    let y : (c / d * d + c % d) * b ≡ c * b = ap (λ n. n * b) (div-add-mod' c d) in
    let z : a / b * (b * d) ≡ c / d * (b * d) = ap (λ n. n * (b * d)) e in
    same_cmp (a % b * d) (c % d * b) (a * d) (c * b) (λ l. omega arith) (λ l. omega arith) (λ l. omega arith)

pub by_zero : (r s b d : ℕ) → 0 < b → 0 < d → (r ≡ 0) ⊎ (s ≡ 0) → nat_cmp r s ≡ nat_cmp (r * d) (s * b)
by_zero r s b d h k (inl e) = rw e (same_cmp 0 s (0 * d) (s * b) (λ l. omega (arith, mul-pos l h)) (λ l. rw (← l) (omega arith)) (λ l. absurd (omega arith)))
by_zero r s b d h k (inr e) = rw e (same_cmp r 0 (r * d) (0 * b) (λ l. absurd (omega arith)) (λ l. rw l (omega arith)) (λ l. omega (arith, mul-pos l k)))

pub loop_step : (a b c d : ℕ) → a / b ≡ c / d → nat_cmp (d * (a % b)) (b * (c % d)) ≡ nat_cmp (a * d) (c * b)
loop_step a b c d e = same_cmp (d * (a % b)) (b * (c % d)) (a % b * d) (c % d * b) (λ l. omega arith) (λ l. omega arith) (λ l. omega arith) ∙ by_rests a b c d e

-- ---- greatest common divisors

pub gcd-one : (a : ℕ) → 1 ≡ gcd a 1
gcd-one a = same_from_IsGcd a 1 1 (gcd a 1) (one-dvd a, one-dvd 1, λ d h k. k) (gcd-is a 1)

pub one-gcd : (b : ℕ) → 1 ≡ gcd 1 b
one-gcd b = same_from_IsGcd 1 b 1 (gcd 1 b) (one-dvd 1, one-dvd b, λ d h k. h) (gcd-is 1 b)

pub one_of : (a b : ℕ) → ((a ≡ 1) ⊎ (b ≡ 1)) → 1 ≡ gcd a b
one_of a b (inl e) = one-gcd b ∙ ap (λ n. gcd n b) (sym e)
one_of a b (inr e) = gcd-one a ∙ ap (λ n. gcd a n) (sym e)
