-- The exponent of a quotient, and how large its scaled numbers are.
use Rattle.std.proofs.Common.{◌≡◌, ◌∙◌, ℕ, zero, suc, ◌+◌, ◌-◌, ◌*◌, ◌/◌, ◌%◌, ◌^◌, ◌<◌, ◌≤◌, Bool, true, false, refl, sym, ap, subst, arith, nat_le, nat_lt, lit<, lit≤}
use Rattle.std.proofs.Math.Nat.{pow-suc, mul-le-mul_left, mul-le-mul_right, mul_assoc, mul_comm, le_of_lt, div-lt_iff_lt-mul, div-mul-le_self, div-le_self}
use Rattle.std.proofs.lemmas.Nat.{pow-add, div_below}
use Rattle.std.proofs.lemmas.Bool.Decides.{nat_tests}
use Rattle.std.proofs.lemmas.Int.{ints}
use Rattle.std.specs.Prelude.{ℤ, pos, negsuc, neg_ℤ, ◌-ℤ◌, if◌then◌else◌}
use Rattle.wide.specs.Parts.{part_end, wide_end}
use Rattle.decimals.specs.Rounding.{nearest, rounded, round_up}
use Rattle.decimals.specs.Fits.{FitsScaled}
use Rattle.decimals.specs.Significand.{IsExponent, tenfolds, exponent}
use Rattle.decimals.proofs.Powers.{tens_pos, tens_up, scaled_small}

-- ---- how often 10 goes in

-- j times is not one too often
abbrev pub IsNeeded : ℕ → ℕ → ℕ → Type 0
IsNeeded a b zero = Unit {0}
IsNeeded a b (suc j) = a * 10 ^ j < b

pub ten_more : (a j : ℕ) → a * 10 ^ suc j ≡ 10 * a * 10 ^ j
ten_more a j = ap (λ x. a * x) (pow-suc 10 j) ∙ omega arith

at_least_once : (a j : ℕ) → a ≤ a * 10 ^ j
at_least_once a j = let up = scaled_small a 0 j (omega arith) in let one : a * 10 ^ 0 ≡ a = omega arith in omega arith

tenfolds_is : (most a b j : ℕ) → j ≤ most → b ≤ a * 10 ^ j → IsNeeded a b j → tenfolds most a b ≡ j
unfolding tenfolds
tenfolds_is zero a b j fuel enough needed = omega arith
tenfolds_is (suc most) a b zero fuel enough needed =
    let whole : a * 10 ^ 0 ≡ a = omega arith in
    let test : nat_le b a ≡ true = grind (arith, nat_tests) in
    rw test refl
tenfolds_is (suc most) a b (suc j) fuel enough needed =
    let once = at_least_once a j in
    let test : nat_le b a ≡ false = grind (arith, nat_tests) in
    let rest = tenfolds_is most (10 * a) b j (omega arith) (let more = ten_more a j in omega arith) (fewer j needed) in
    rw test (ap (λ x. 1 + x) rest ∙ omega arith)
  where
    fewer : (i : ℕ) → a * 10 ^ i < b → IsNeeded (10 * a) b i
    fewer zero h = tt
    fewer (suc i) h = let more = ten_more a i in omega arith

pub below_power : (x : ℕ) → x < 10 ^ x
below_power zero = lit< tt
below_power (suc x) = let before = below_power x in let power = pow-suc 10 x in omega arith

pub at_most_scaled : (a x : ℕ) → 0 < a → 10 ^ x ≤ a * 10 ^ x
at_most_scaled a x h = let up = mul-le-mul_right {m = 1} {n = a} (10 ^ x) h in omega arith

pub exponent_is : (n d : ℕ) (x : ℤ) → 0 < n → 0 < d → IsExponent n d x → x ≡ exponent n d
unfolding exponent
exponent_is n d (pos x) some positive is =
    let once = at_least_once d x in
    let power = at_most_scaled d x positive in
    let small = below_power x in
    let test : nat_le d n ≡ true = grind (arith, nat_tests) in
    let times = tenfolds_is n d (n + 1) (suc x) (omega (arith, is.0)) (omega (arith, is.1)) (omega (arith, is.0)) in
    let before : x ≡ suc x - 1 = omega arith in
    rw test (ap pos before ∙ ap (λ i. pos (i - 1)) (sym times))
exponent_is n d (negsuc x) some positive is =
    let once = at_least_once n x in
    let power = at_most_scaled n x some in
    let small = below_power x in
    let test : nat_le d n ≡ false = grind (arith, nat_tests) in
    let times = tenfolds_is d n d (suc x) (omega (arith, is.1)) is.0 is.1 in
    rw test (ap (λ i. neg_ℤ (pos i)) (sym times))

-- ---- the exponent from a quotient rounded down

pub above_one : (n d x : ℕ) → 0 < d → 10 ^ x ≤ n / d → n / d < 10 * 10 ^ x → IsExponent n d (pos x)
above_one n d x positive low high =
    let front = mul-le-mul_left d low in
    let back = div-mul-le_self n d in
    let power = pow-suc 10 x in
    let turned : d * (n / d) ≡ n / d * d = mul_comm d (n / d) in
    let below : n < 10 * 10 ^ x * d = (div-lt_iff_lt-mul positive).0 high in
    (omega arith, let same : d * 10 ^ suc x ≡ 10 * 10 ^ x * d = ap (λ y. d * y) power ∙ omega arith in omega arith)

pub below_one_is : (n d x : ℕ) → 0 < n → 0 < d → 10 ^ x ≤ (d - 1) / n → (d - 1) / n < 10 * 10 ^ x → IsExponent n d (negsuc x)
below_one_is n d x some positive low high =
    let is = above_one (d - 1) n x some low high in
    (omega (arith, is.1), omega (arith, is.0))

-- ---- what scaled numbers fit in

pub fits_at : (digits n d : ℕ) (x z : ℤ) → 1 ≤ digits → digits ≤ 60 → n < 2 ^ 127 → d < 2 ^ 127 → IsExponent n d x → z ≡ pos digits -ℤ pos 1 -ℤ x → FitsScaled n d z
fits_at digits n d (pos x) (pos z) some few n_small d_small is e =
    let all : z ≤ 60 = omega (arith, ints) in
    let most = scaled_small n z 60 all in
    omega arith
fits_at digits n d (pos x) (negsuc z) some few n_small d_small is e =
    let all : suc z ≤ x = omega (arith, ints) in
    let most = scaled_small d (suc z) x all in
    omega (arith, is.0)
fits_at digits n d (negsuc x) (pos z) some few n_small d_small is e =
    let all : z ≡ x + digits = omega (arith, ints) in
    let parts : n * 10 ^ z ≡ n * 10 ^ x * 10 ^ digits = ap (λ i. n * 10 ^ i) all ∙ ap (λ y. n * y) (pow-add 10 x digits) ∙ sym (mul_assoc n (10 ^ x) (10 ^ digits)) in
    let up = tens_up digits 60 few in
    let wider = mul-le-mul_right (10 ^ digits) (le_of_lt is.1) in
    let most = mul-le-mul_left d up in
    omega arith
fits_at digits n d (negsuc x) (negsuc z) some few n_small d_small is e = absurd (omega (arith, ints))

pub fits_places : (n d p : ℕ) (z : ℤ) → n < 2 ^ 127 → p ≤ 60 → z ≡ pos p → FitsScaled n d z
fits_places n d p z small few e = subst (FitsScaled n d) (sym e) (let most = scaled_small n p 60 few in omega arith)

-- ---- how large a rounded number is

round_up_small : (q t d : ℕ) → round_up q t d ≤ 1
round_up_small q t d = by (nat_lt t d) (nat_lt d t)
  where
    by : (a b : Bool) → (if a then 0 else if b then 1 else q % 2) ≤ 1
    by true b = lit≤ tt
    by false true = lit≤ tt
    by false false = omega arith

nearest_small : (n d : ℕ) → nearest n d ≤ n + 1
unfolding nearest
nearest_small n d = let up = round_up_small (n / d) (2 * (n % d)) d in let down = div-le_self n d in omega arith

rounded_places : (n d p : ℕ) → rounded n d (pos p) ≤ n * 10 ^ p + 1
unfolding rounded
rounded_places n d p = nearest_small (n * 10 ^ p) d

pub rounded_small : (n d p : ℕ) (z : ℤ) → z ≡ pos p → rounded n d z ≤ n * 10 ^ p + 1
rounded_small n d p z e = let same = ap (rounded n d) e in let small = rounded_places n d p in omega arith

pub carried_small : (n d p digits : ℕ) (z : ℤ) → z ≡ pos (suc p) → 1 ≤ digits → 10 ^ digits ≤ rounded n d z → 10 ^ (digits - 1) ≤ n * 10 ^ p + 1
carried_small n d p digits z e some large =
    let small = rounded_small n d (suc p) z e in
    let more = ten_more n p in
    let regrouped : 10 * n * 10 ^ p ≡ 10 * (n * 10 ^ p) = mul_assoc 10 n (10 ^ p) in
    let power : 10 ^ digits ≡ 10 ^ (digits - 1) * 10 = let last : digits ≡ suc (digits - 1) = omega arith in ap (λ i. 10 ^ i) last ∙ pow-suc 10 (digits - 1) in
    omega arith

pub whole_fits : (n m p : ℕ) → n < 2 ^ 127 → m ≤ n * 10 ^ p + 1 → m / 10 ^ p < part_end
whole_fits n m p small h =
    let positive = tens_pos p in
    let most = mul-le-mul_right (10 ^ p) (le_of_lt small) in
    div_below m (10 ^ p) part_end positive (omega arith)

pub not_below : (a b : ℕ) → nat_lt a b ≡ false → b ≤ a
not_below a b h = grind (arith, nat_tests)

pub one_digit_less : (digits : ℕ) → 1 ≤ digits → 10 ^ (digits - 1) < 10 ^ digits
one_digit_less digits some =
    let power : 10 ^ digits ≡ 10 ^ (digits - 1) * 10 = let last : digits ≡ suc (digits - 1) = omega arith in ap (λ i. 10 ^ i) last ∙ pow-suc 10 (digits - 1) in
    let positive = tens_pos (digits - 1) in
    omega arith

pub power_fits : (n k : ℕ) → n ≡ 1 * 1 → k ≤ 60 → n * 10 ^ k < wide_end
power_fits n k e h =
    let up = tens_up k 60 h in
    let most : 10 ^ 60 < wide_end = lit< tt in
    let one : n * 10 ^ k ≡ 10 ^ k = let unit : n ≡ 1 = e in ap (λ x. x * 10 ^ k) unit ∙ omega arith in
    omega arith
