-- Literals of digits alone: their value is the whole number of their digits.
use Rattle.std.proofs.Common.{zero, suc, ◌≡◌, ◌∙◌, ℕ, ◌+◌, ◌-◌, ◌*◌, ◌/◌, ◌%◌, ◌^◌, ◌<◌, ◌≤◌, refl, sym, ap, arith, Bool, true, false, List, [], ◌∷◌, length, lit≤, mul-pos, pow-suc, mul-le-mul_right, mul-le-mul_left, mul_assoc, zero-mul}
use Rattle.std.proofs.Math.IntN.{negsuc-*ℤ-pos}
use Rattle.std.proofs.Math.Nat.{mul-div_cancel}
use Rattle.std.proofs.lemmas.Bool.{le-leb}
use Rattle.std.proofs.lemmas.Bool.Decides.{nat_tests}
use Rattle.std.proofs.lemmas.Int.{ints}
use Rattle.std.specs.Prelude.{ℤ, pos, neg_ℤ, ◌*ℤ◌, ◌-ℤ◌, ◌==◌, unsigned_abs, Ok, Some, None, if◌then◌else◌}
use Rattle.std.specs.declared.option.Option.{Option}
use Rattle.std.specs.List.{slice_split}
use Rattle.std.specs.Char.{is_ascii_digit}
use Rattle.rational.specs.Rational.{whole}
use Rattle.fraction.specs.Fits.{part_max}
use Rattle.fraction.specs.Literal.{is_point, is_exponent_mark, digits_on, digits_of, Decimal, tens_in, stripped, decimal_of, fitting, signed_value, literal_of, scaled}

-- ---- digits

pub if_some : {A : Type 0} (b : Bool) (x : Option A) (v : A) → (if b then x else None) ≡ Some v → (b ≡ true) × (x ≡ Some v)
if_some true x v h = (refl, h)
if_some false x v h = cc

pub not_digit : (p : ℕ → Bool) → ((c : ℕ) → is_ascii_digit c ≡ true → p c ≡ false) → (n v : ℕ) (ds : List ℕ) → digits_on n ds ≡ Some v → slice_split p ds ≡ ds ∷ []
not_digit p other n v [] h = refl
not_digit p other n v (c ∷ cs) h =
    let first = if_some (is_ascii_digit c) _ v h in
    rw (other c first.0, not_digit p other (10 * n + (c - 48)) v cs first.1) refl

pub digit-not-point : (c : ℕ) → is_ascii_digit c ≡ true → is_point c ≡ false
digit-not-point c h = grind (arith, nat_tests)

pub digit-not-mark : (c : ℕ) → is_ascii_digit c ≡ true → is_exponent_mark c ≡ false
digit-not-mark c h = grind (arith, nat_tests)

pub digit_small : (c : ℕ) → is_ascii_digit c ≡ true → c - 48 < 10
digit_small c h = grind (arith, nat_tests)

pub pow_pos_ten : (k : ℕ) → 0 < 10 ^ k
pow_pos_ten zero = lit≤ tt
pow_pos_ten (suc k) = rw pow-suc (mul-pos (pow_pos_ten k) (lit≤ tt))

one_more : (n d p : ℕ) → d < 10 → (10 * n + d + 1) * p ≤ (n + 1) * (p * 10)
one_more n d p h =
    let e : (10 * n + d + 1) * p ≤ (10 * n + 10) * p = mul-le-mul_right p (omega arith) in
    omega (arith, e)

-- with at most k digits more, the number is below (n + 1) * 10^k
digits_below : (k n v : ℕ) (ds : List ℕ) → length ds ≤ k → digits_on n ds ≡ Some v → v < (n + 1) * 10 ^ k
digits_below k n v [] short h =
    let e : n ≡ v = cc in
    let p : (n + 1) * 1 ≤ (n + 1) * 10 ^ k = mul-le-mul_left (n + 1) (pow_pos_ten k) in
    omega arith
digits_below zero n v (c ∷ cs) short h = absurd (omega arith)
digits_below (suc k) n v (c ∷ cs) short h =
    let first = if_some (is_ascii_digit c) _ v h in
    let small = digit_small c first.0 in
    let below = digits_below k (10 * n + (c - 48)) v cs (omega arith) first.1 in
    let e = one_more n (c - 48) (10 ^ k) small in
    rw pow-suc (omega arith)

-- ---- zeros at the end

-- n is a multiple of the power that is taken out
next_ten : (n q t : ℕ) (b : Bool) → (n % 10 == 0) ≡ b → n / 10 ≡ q * 10 ^ t → (q : ℕ) × (n ≡ q * 10 ^ (if b then 1 + t else 0))
next_ten n q t true e h =
    let tens : n ≡ n / 10 * 10 = grind (arith, nat_tests) in
    let more : 1 + t ≡ suc t = omega arith in
    (q, rw (more, pow-suc) (tens ∙ ap (λ m. m * 10) h ∙ mul_assoc q (10 ^ t) 10))
next_ten n q t false e h = (n, omega arith)

tens_out : (most n : ℕ) → (q : ℕ) × (n ≡ q * 10 ^ tens_in most n)
tens_out zero n = (n, omega arith)
tens_out (suc most) n = let m = tens_out most (n / 10) in next_ten n m.0 (tens_in most (n / 10)) (n % 10 == 0) refl m.1

pub stripped_whole : (most n : ℕ) → n / 10 ^ tens_in most n * 10 ^ tens_in most n ≡ n
stripped_whole most n =
    let out = tens_out most n in
    let p = 10 ^ tens_in most n in
    let e : n / p ≡ out.0 = ap (λ m. m / p) out.1 ∙ mul-div_cancel out.0 (pow_pos_ten (tens_in most n)) in
    ap (λ q. q * p) e ∙ sym out.1

-- ---- values

-- a sign goes through a product and leaves the size
record IsSign (sign : ℤ → ℤ) : Type 0 where
  through : (a b : ℕ) → sign (pos a) *ℤ pos b ≡ sign (pos (a * b))
  size : (a : ℕ) → unsigned_abs (sign (pos a)) ≡ a

plus : IsSign (λ n. n)
plus = record { through = λ a b. refl; size = λ a. refl }

pub minus-through : (a b : ℕ) → neg_ℤ (pos a) *ℤ pos b ≡ neg_ℤ (pos (a * b))
minus-through zero b = simp zero-mul
minus-through (suc a) b = negsuc-*ℤ-pos a b

minus : IsSign neg_ℤ
minus = record { through = minus-through; size = λ a. omega (arith, ints) }

both_at_most : (a b c v : ℕ) → 0 < v → 0 < b → a * b ≡ v → v ≤ c → (a ≤ c) × (b ≤ c)
both_at_most zero b c v some more e small = absurd (omega (arith, zero-mul b))
both_at_most (suc a) b c v some more e small =
    let left : suc a * 1 ≤ suc a * b = mul-le-mul_left (suc a) more in
    let right : 1 * b ≤ suc a * b = mul-le-mul_right b (omega arith) in
    (omega arith, omega arith)

-- m * 10^t is the whole number v, which fits
whole_value : (sign : ℤ → ℤ) → IsSign sign → (d : Decimal) (t v : ℕ) → d.e ≡ pos t → d.m * 10 ^ t ≡ v → d.m ≤ part_max → 10 ^ t ≤ part_max → v ≤ part_max
    → signed_value sign (Some d) ≡ Ok (whole (sign (pos v)))
whole_value sign is d t v e product m_small p_small small =
    let value : scaled (sign (pos d.m)) d.e ≡ whole (sign (pos v)) =
    ap (scaled (sign (pos d.m))) e ∙ ap whole (is.through d.m (10 ^ t) ∙ ap (λ n. sign (pos n)) product) in
    ap (fitting d) value ∙ rw (e, le-leb _ _ m_small, le-leb _ _ p_small, is.size, le-leb _ _ small) refl

zero_value : (sign : ℤ → ℤ) → IsSign sign → (n : ℕ) → n ≡ 0 → signed_value sign (Some (record { m = 0; e = pos 0 })) ≡ Ok (whole (sign (pos n)))
zero_value sign is n h = whole_value sign is (record { m = 0; e = pos 0 }) 0 n refl (sym h) (lit≤ tt) (lit≤ tt) (rw h (lit≤ tt))

some_value : (sign : ℤ → ℤ) → IsSign sign → (most n : ℕ) → 0 < n → n ≤ part_max → signed_value sign (Some (stripped (tens_in most n) n (pos 0 -ℤ pos 0))) ≡ Ok (whole (sign (pos n)))
some_value sign is most n some small =
    let back = stripped_whole most n in
    let parts = both_at_most (n / 10 ^ tens_in most n) (10 ^ tens_in most n) part_max n some (pow_pos_ten (tens_in most n)) back small in
    whole_value sign is (stripped (tens_in most n) n (pos 0 -ℤ pos 0)) (tens_in most n) n (ap pos (omega arith)) back parts.0 parts.1 small

decimal_value : (sign : ℤ → ℤ) → IsSign sign → (digits n : ℕ) → n ≤ part_max → (b : Bool) → (n == 0) ≡ b
    → signed_value sign (Some (if b then record { m = 0; e = pos 0 } else stripped (tens_in digits n) n (pos 0 -ℤ pos 0))) ≡ Ok (whole (sign (pos n)))
decimal_value sign is digits n small true e = zero_value sign is n (grind (arith, nat_tests))
decimal_value sign is digits n small false e = some_value sign is digits n (grind (arith, nat_tests)) small

literal_digits : (ds : List ℕ) (n : ℕ) → digits_of ds ≡ Some n → literal_of ds ≡ Some (decimal_of (record { number = n; digits = length ds; places = 0 }) (pos 0))
literal_digits [] n h = cc
literal_digits (c ∷ cs) n h = rw (not_digit is_exponent_mark digit-not-mark 0 n (c ∷ cs) h, not_digit is_point digit-not-point 0 n (c ∷ cs) h, h) refl

digits_small : (ds : List ℕ) (n : ℕ) → digits_of ds ≡ Some n → length ds ≤ 18 → n ≤ part_max
digits_small [] n h short = absurd cc
digits_small (c ∷ cs) n h short = let below : n < (0 + 1) * 10 ^ 18 = digits_below 18 0 n (c ∷ cs) short h in let room : 10 ^ 18 ≤ part_max = lit≤ tt in omega arith

digits_value : (sign : ℤ → ℤ) → IsSign sign → (ds : List ℕ) (n : ℕ) → digits_of ds ≡ Some n → length ds ≤ 18 → signed_value sign (literal_of ds) ≡ Ok (whole (sign (pos n)))
digits_value sign is ds n h short =
    ap (signed_value sign) (literal_digits ds n h) ∙ decimal_value sign is (length ds) n (digits_small ds n h short) (n == 0) refl
