-- One exponent is that of a quotient.
use Rattle.std.proofs.Common.{◌≡◌, ℕ, zero, suc, ◌+◌, ◌-◌, ◌*◌, ◌^◌, ◌<◌, ◌≤◌, Bool, true, false, refl, sym, subst, arith, nat_le}
use Rattle.std.proofs.lemmas.Bool.Decides.{nat_tests}
use Rattle.std.specs.Prelude.{ℤ, pos, neg_ℤ, ◌↔◌, if◌then◌else◌}
use Rattle.decimals.specs.Significand.{IsExponent, tenfolds, exponent}
use Rattle.decimals.proofs.ExponentLemmas.{IsNeeded, ten_more, below_power, at_most_scaled, exponent_is}

-- j times are enough, and not one too many
record AreTenfolds (a b j : ℕ) : Type 0 where
  pub enough : b ≤ a * 10 ^ j
  pub needed : IsNeeded a b j

first_needed : (a b : ℕ) → nat_le b a ≡ false → a * 10 ^ 0 < b
first_needed a b h = let one : a * 10 ^ 0 ≡ a = omega arith in grind (arith, nat_tests)

one_more : (a b j : ℕ) → nat_le b a ≡ false → AreTenfolds (10 * a) b j → AreTenfolds a b (suc j)
one_more a b zero h are = record { enough = let more = ten_more a 0 in omega (arith, are.enough); needed = first_needed a b h }
one_more a b (suc j) h are = record { enough = let more = ten_more a (suc j) in omega (arith, are.enough); needed = let more = ten_more a j in omega (arith, are.needed) }

one_step : (a b j : ℕ) (t : Bool) → nat_le b a ≡ t → AreTenfolds (10 * a) b j → AreTenfolds a b (if t then 0 else 1 + j)
one_step a b j true e rest = record { enough = let one : a * 10 ^ 0 ≡ a = omega arith in grind (arith, nat_tests); needed = tt }
one_step a b j false e rest = let next : suc j ≡ 1 + j = omega arith in subst (AreTenfolds a b) next (one_more a b j e rest)

tenfolds_are : (most a b : ℕ) → b ≤ a * 10 ^ most → AreTenfolds a b (tenfolds most a b)
unfolding tenfolds
tenfolds_are zero a b h = record { enough = h; needed = tt }
tenfolds_are (suc most) a b h = one_step a b (tenfolds most (10 * a) b) (nat_le b a) refl (tenfolds_are most (10 * a) b (let more = ten_more a most in omega arith))

above : (n d j : ℕ) → d ≤ n → AreTenfolds d (n + 1) j → IsExponent n d (pos (j - 1))
above n d zero h are = let one : d * 10 ^ 0 ≡ d = omega arith in absurd (omega (arith, are.enough))
above n d (suc j) h are =
    let before : j ≡ suc j - 1 = omega arith in
    subst (λ i. IsExponent n d (pos i)) before (omega (arith, are.needed), omega (arith, are.enough))

below : (n d j : ℕ) → n < d → AreTenfolds n d j → IsExponent n d (neg_ℤ (pos j))
below n d zero h are = let one : n * 10 ^ 0 ≡ n = omega arith in absurd (omega (arith, are.enough))
below n d (suc j) h are = (are.enough, are.needed)

is_exponent : (n d : ℕ) → 0 < n → 0 < d → IsExponent n d (exponent n d)
unfolding exponent
is_exponent n d some positive = by (nat_le d n) refl
  where
    by : (t : Bool) → nat_le d n ≡ t → IsExponent n d (if t then pos (tenfolds n d (n + 1) - 1) else neg_ℤ (pos (tenfolds d n d)))
    by true e =
        let enough = at_most_scaled d n positive in
        let small = below_power n in
        above n d (tenfolds n d (n + 1)) (grind (arith, nat_tests)) (tenfolds_are n d (n + 1) (omega arith))
    by false e =
        let enough = at_most_scaled n d some in
        let small = below_power d in
        below n d (tenfolds d n d) (grind (arith, nat_tests)) (tenfolds_are d n d (omega arith))

pub exponent_law : (n d : ℕ) (x : ℤ) → 0 < n → 0 < d → (x ≡ exponent n d) ↔ IsExponent n d x
exponent_law n d x some positive = (λ e. subst (IsExponent n d) (sym e) (is_exponent n d some positive), exponent_is n d x some positive)
