-- One whole number is the nearest.
use Rattle.std.proofs.Common.{◌≡◌, ⊎_elim, inl, inr, ℕ, zero, suc, ◌+◌, ◌*◌, ◌/◌, ◌%◌, ◌<◌, ◌≤◌, Bool, true, false, refl, sym, subst, arith, nat_lt}
use Rattle.std.proofs.Math.Nat.{mul-le-mul_right, mod-lt}
use Rattle.std.proofs.lemmas.Nat.{div-add-mod'}
use Rattle.std.proofs.lemmas.Bool.{cases_lt}
use Rattle.std.proofs.lemmas.Bool.Decides.{nat_tests}
use Rattle.std.specs.Prelude.{◌↔◌, ◌⊎◌, if◌then◌else◌}
use Rattle.decimals.specs.Rounding.{nearest, IsNearest, distance}

rounded_is : (n d q r : ℕ) (a b : Bool) → n ≡ q * d + r → r < d → nat_lt (2 * r) d ≡ a → nat_lt d (2 * r) ≡ b → IsNearest n d (q + (if a then 0 else if b then 1 else q % 2))
rounded_is n d q r true b e h f g =
    let less : 2 * r < d = grind (arith, nat_tests) in
    record { near = omega arith; even = λ same. absurd (omega arith) }
rounded_is n d q r false true e h f g =
    let more : d < 2 * r = grind (arith, nat_tests) in
    let next : (q + 1) * d ≡ q * d + d = omega arith in
    record { near = omega arith; even = λ same. absurd (omega arith) }
rounded_is n d q r false false e h f g =
    let low : 2 * r ≤ d = grind (arith, nat_tests) in
    let high : d ≤ 2 * r = grind (arith, nat_tests) in
    by (q % 2) refl (omega arith) (omega arith)
  where
    by : (s : ℕ) → q % 2 ≡ s → s < 2 → 2 * r ≡ d → IsNearest n d (q + q % 2)
    by s odd small half = rw odd (part s odd small half)
      where
        part : (s : ℕ) → q % 2 ≡ s → s < 2 → 2 * r ≡ d → IsNearest n d (q + s)
        part zero odd small half = let same : (q + 0) * d ≡ q * d = omega arith in record { near = omega arith; even = λ _. omega arith }
        part (suc zero) odd small half = let next : (q + 1) * d ≡ q * d + d = omega arith in record { near = omega arith; even = λ _. omega arith }
        part (suc (suc s)) odd small half = absurd (omega arith)

nearest_is : (n d : ℕ) → 0 < d → IsNearest n d (nearest n d)
unfolding nearest
nearest_is n d positive = rounded_is n d (n / d) (n % d) (nat_lt (2 * (n % d)) d) (nat_lt d (2 * (n % d))) (sym (div-add-mod' n d)) (mod-lt n positive) refl refl

le_or : (a b : ℕ) → (a ≤ b) ⊎ (b < a)
le_or a b = ⊎_elim (λ less. inr less) (λ more. inl more) (cases_lt b a)

-- of two nearest numbers the first is not less
not_less : (n d a b : ℕ) → 0 < d → IsNearest n d a → IsNearest n d b → a < b → a ≡ b
not_less n d a b positive first second h =
    let gap : (a + 1) * d ≤ b * d = mul-le-mul_right d (omega arith) in
    let next : (a + 1) * d ≡ a * d + d = omega arith in
    let first_half : 2 * distance (a * d) n ≡ d = omega (arith, first.near, second.near) in
    let second_half : 2 * distance (b * d) n ≡ d = omega (arith, first.near, second.near) in
    let close : b * d ≤ (a + 1) * d = omega (arith, first.near, second.near) in
    let far : (a + 2) * d ≡ a * d + d + d = omega arith in
    ⊎_elim (λ less. absurd (let wide : (a + 2) * d ≤ b * d = mul-le-mul_right d less in omega arith))
    (λ more. absurd (let one : b ≡ a + 1 = omega arith in omega (arith, first.even first_half, second.even second_half))) (le_or (a + 2) b)

pub nearest_law : (n d m : ℕ) → 0 < d → (m ≡ nearest n d) ↔ IsNearest n d m
nearest_law n d m positive = (λ e. subst (IsNearest n d) (sym e) (nearest_is n d positive), only)
  where
    only : IsNearest n d m → m ≡ nearest n d
    only is = ⊎_elim (λ less. not_less n d m (nearest n d) positive is (nearest_is n d positive) less)
        (λ rest. ⊎_elim (λ more. sym (not_less n d (nearest n d) m positive (nearest_is n d positive) is more)) (λ least. omega arith) (cases_lt (nearest n d) m)) (cases_lt m (nearest n d))
