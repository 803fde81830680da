-- `gcd` is the greatest common divisor, and numbers divided by it have none.
use Rattle.std.proofs.Common.{◌≡◌, ◌∙◌, ℕ, zero, suc, ◌*◌, ◌+◌, ◌<◌, ◌≤◌, ◌/◌, ◌%◌, refl, sym, ap, subst, arith}
use Rattle.std.proofs.Math.Nat.{one-dvd, dvd_trans, dvd-mul_right, dvd-mod_iff, div-mul_cancel, eq_of_mul-eq-mul_right, zero-mul, mul-zero, mod-lt, div-add-mod', mul-div-mul_right, one-mul}
use Rattle.std.proofs.lemmas.Nat.Gcd.{IsGcd-from_zero, IsGcd-from_mod, same_from_IsGcd}
use Rattle.std.specs.Int.{IsGcd, ◌∣◌}
use Rattle.integer.specs.Gcd.{gcd, gcd_within}

within_is : (steps a b : ℕ) → b ≤ steps → IsGcd a b (gcd_within steps a b)
unfolding gcd_within
within_is zero a b h = IsGcd-from_zero a b (omega arith)
within_is (suc steps) a zero h = IsGcd-from_zero a zero refl
within_is (suc steps) a (suc b) h =
    IsGcd-from_mod a (suc b) _ (within_is steps (suc b) (a % suc b) (omega (arith, mod-lt a {m = suc b} (omega arith))))

pub gcd-is : (a b : ℕ) → IsGcd a b (gcd a b)
unfolding gcd
gcd-is a b = within_is b a b (omega arith)

-- the remainder of multiples
mod-scaled : (a b c : ℕ) → (a * c) % (b * c) ≡ (a % b) * c
mod-scaled a b zero = rw (mul-zero a, mul-zero b, mul-zero (a % b)) refl
mod-scaled a b (suc c) =
    let k : a * suc c / (b * suc c) ≡ a / b = mul-div-mul_right a b (omega arith) in
    let whole : a * suc c / (b * suc c) * (b * suc c) + (a * suc c) % (b * suc c) ≡ a * suc c = div-add-mod' (a * suc c) (b * suc c) in
    let parts : a / b * (b * suc c) + (a * suc c) % (b * suc c) ≡ a * suc c = rw k at whole in
    let small : (a / b * b + a % b) * suc c ≡ a * suc c = ap (λ n. n * suc c) (div-add-mod' a b) in
    omega arith

scaled_within : (steps a b c g : ℕ) → b ≤ steps → IsGcd a b g → IsGcd (a * c) (b * c) (g * c)
scaled_within zero a b c g h p =
    let z : b ≡ 0 = omega arith in
    let e : g ≡ a = same_from_IsGcd a b g a p (IsGcd-from_zero a b z) in
    subst (λ x. IsGcd (a * c) (b * c) (x * c)) (sym e) (IsGcd-from_zero (a * c) (b * c) (rw z (zero-mul c)))
scaled_within (suc steps) a zero c g h p =
    let e : g ≡ a = same_from_IsGcd a zero g a p (IsGcd-from_zero a zero refl) in
    subst (λ x. IsGcd (a * c) (zero * c) (x * c)) (sym e) (IsGcd-from_zero (a * c) (zero * c) (zero-mul c))
scaled_within (suc steps) a (suc b) c g h p =
    IsGcd-from_mod (a * c) (suc b * c) (g * c)
    (subst (λ r. IsGcd (suc b * c) r (g * c)) (sym (mod-scaled a (suc b) c))
    (scaled_within steps (suc b) (a % suc b) c g (omega (arith, mod-lt a {m = suc b} (omega arith)))
    (p.1, (dvd-mod_iff g p.1).1 p.0, λ d q r. p.2 d ((dvd-mod_iff d q).0 r) q)))

pub IsGcd-scaled : (a b c g : ℕ) → IsGcd a b g → IsGcd (a * c) (b * c) (g * c)
IsGcd-scaled a b c g p = scaled_within b a b c g (omega arith) p

-- a divisor of a product that has nothing in common with one factor divides the other
pub dvd_from_coprime : (d a b : ℕ) → IsGcd d a 1 → d ∣ a * b → d ∣ b
dvd_from_coprime d a b p q = subst (λ x. d ∣ x) (one-mul b) ((IsGcd-scaled d a b 1 p).2 d (dvd-mul_right d b) q)

-- the quotients by the greatest common divisor have none but 1
pub coprime-quotients : (a b g : ℕ) → 0 < g → IsGcd a b g → IsGcd (a / g) (b / g) 1
coprime-quotients a b g h p =
    let k = gcd (a / g) (b / g) in
    let big : IsGcd (a / g * g) (b / g * g) (k * g) = IsGcd-scaled (a / g) (b / g) g k (gcd-is (a / g) (b / g)) in
    let one : IsGcd a b (k * g) = rw (div-mul_cancel g p.0, div-mul_cancel g p.1) at big in
    let e : k * g ≡ 1 * g = same_from_IsGcd a b (k * g) g one p ∙ sym (one-mul g) in
    let same : k ≡ 1 = eq_of_mul-eq-mul_right g h k 1 e in
    subst (λ x. IsGcd (a / g) (b / g) x) same (gcd-is (a / g) (b / g))

-- one step of Euclid's algorithm
pub gcd_step : (a b : ℕ) → gcd b (a % b) ≡ gcd a b
gcd_step a b = same_from_IsGcd a b (gcd b (a % b)) (gcd a b) (IsGcd-from_mod a b _ (gcd-is b (a % b))) (gcd-is a b)

pub gcd_end : (a : ℕ) → gcd a 0 ≡ a
gcd_end a = same_from_IsGcd a 0 (gcd a 0) a (gcd-is a 0) (IsGcd-from_zero a 0 refl)

-- a product has nothing in common with what its factors have nothing in common with
pub coprime_mul : (x y z : ℕ) → IsGcd x z 1 → IsGcd y z 1 → IsGcd (x * y) z 1
coprime_mul x y z p q = (one-dvd (x * y), one-dvd z, λ d h k. q.2 d (dvd_from_coprime d x y (apart d k) h) k)
  where
    apart : (d : ℕ) → d ∣ z → IsGcd d x 1
    apart d k = (one-dvd d, one-dvd x, λ e f g. p.2 e g (dvd_trans e f k))

-- what divides has nothing in common with what the whole has nothing in common with
pub coprime_part : (x y z : ℕ) → x ∣ y → IsGcd y z 1 → IsGcd x z 1
coprime_part x y z h p = (one-dvd x, one-dvd z, λ e f g. p.2 e (dvd_trans e f h) g)
