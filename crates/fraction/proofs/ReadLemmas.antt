-- What `read` keeps of a literal's parts is enough for its value.
use Rattle.std.proofs.Common.{zero, suc, ◌≡◌, ◌∙◌, ℕ, ◌+◌, ◌-◌, ◌*◌, ◌/◌, ◌%◌, ◌^◌, ◌<◌, ◌≤◌, refl, sym, ap, arith, Bool, true, false, List, [], ◌∷◌, length, lit≤, lit<, min, pow-suc, mul-le-mul_right, mul-le-mul_left, zero-mul, add-one, add-zero}
use Rattle.std.proofs.Math.Nat.{pow-le-pow_right, mul-div-mul_right, div-one}
use Rattle.std.proofs.lemmas.Bool.Decides.{nat_tests}
use Rattle.std.specs.Prelude.{◌==◌, nat_le, Some, None, if◌then◌else◌}
use Rattle.std.specs.declared.option.Option.{Option}
use Rattle.std.specs.Option.{option_map}
use Rattle.std.specs.Char.{is_ascii_digit}
use Rattle.fraction.specs.Literal.{digits_on, tens_in}
use Rattle.fraction.specs.Reading.{significant_end, kept, with_digit, kept_on, clipped}
use Rattle.fraction.specs.declared.read.Digits.{Digits}
use Rattle.fraction.proofs.LiteralLemmas.{pow_pos_ten, digit_small, stripped_whole}

-- ---- powers of ten

pub ten_power_small : (e : ℕ) → e ≤ 38 → 10 ^ e ≤ 10 ^ 38
ten_power_small e h = pow-le-pow_right (lit< tt) {i = e} {j = 38} h

pub ten_power_large : (e : ℕ) → 38 < e → 10 ^ 39 ≤ 10 ^ e
ten_power_large e h = pow-le-pow_right (lit< tt) {i = 39} {j = e} (omega arith)

pub grown_past : (n z d : ℕ) → 0 < n → 37 < z → significant_end ≡ min (n * 10 ^ (z + 1) + d) significant_end
grown_past n z d some large =
    let p : 10 ^ 39 ≤ 10 ^ (z + 1) = ten_power_large (z + 1) (omega arith) in
    let q : 1 * 10 ^ (z + 1) ≤ n * 10 ^ (z + 1) = mul-le-mul_right (10 ^ (z + 1)) some in
    let r : significant_end ≤ 10 ^ 39 = lit≤ tt in
    omega arith

-- ---- numbers up to a limit

clip_step : (limit n m d : ℕ) → clipped limit n ≡ clipped limit m → clipped limit (10 * n + d) ≡ clipped limit (10 * m + d)
clip_step limit n m d h = omega arith

cond_same : {A : Type 0} (b : Bool) (x y z : A) → x ≡ y → (if b then x else z) ≡ (if b then y else z)
cond_same true x y z h = h
cond_same false x y z h = refl

map_cond : {A B : Type 0} (f : A → B) (b : Bool) (x : Option A) → option_map f (if b then x else None) ≡ (if b then option_map f x else None)
map_cond f true x = refl
map_cond f false x = refl

clip_on : (limit n m : ℕ) (cs : List ℕ) → clipped limit n ≡ clipped limit m → option_map (clipped limit) (digits_on n cs) ≡ option_map (clipped limit) (digits_on m cs)
clip_on limit n m [] h = ap (λ (x : ℕ). Some x) h
clip_on limit n m (c ∷ cs) h =
    let rest = clip_on limit (10 * n + (c - 48)) (10 * m + (c - 48)) cs (clip_step limit n m (c - 48) h) in
    map_cond (clipped limit) (is_ascii_digit c) _ ∙ cond_same (is_ascii_digit c) _ _ None rest ∙ sym (map_cond (clipped limit) (is_ascii_digit c) _)

clip_again : (limit n : ℕ) → clipped limit (clipped limit n) ≡ clipped limit n
clip_again limit n = omega arith

-- one digit more, up to a limit
pub clip_next : (limit n m c : ℕ) (cs : List ℕ) → is_ascii_digit c ≡ true → m ≡ clipped limit (10 * n + (c - 48)) → option_map (clipped limit) (digits_on m cs) ≡ option_map (clipped limit) (digits_on n (c ∷ cs))
clip_next limit n m c cs digit is =
    let same : clipped limit m ≡ clipped limit (10 * n + (c - 48)) = ap (clipped limit) is ∙ clip_again limit (10 * n + (c - 48)) in
    clip_on limit m (10 * n + (c - 48)) cs same ∙ rw digit refl

-- ---- digits and the zeros at their end

-- one zero more
zero_more : (count m n : ℕ) → m ≡ 10 * n → tens_in (count + 1) m ≡ tens_in count n + 1
zero_more count m n e =
    let last : (m % 10 == 0) ≡ true = grind (arith, nat_tests) in
    let rest : m / 10 ≡ n = omega arith in
    let more : 1 + tens_in count n ≡ tens_in count n + 1 = omega arith in
    rw (add-one, last, rest) more

-- a digit that is not 0 ends the zeros
no_zeros : (count n d : ℕ) → 0 < d → d < 10 → tens_in (count + 1) (10 * n + d) ≡ 0
no_zeros count n d some small =
    let last : ((10 * n + d) % 10 == 0) ≡ false = grind (arith, nat_tests) in
    rw (add-one, last) refl

less_zeros : (n p : ℕ) → 0 < p → 10 * n / (p * 10) ≡ n / p
less_zeros n p some = let e : 10 * n ≡ n * 10 = omega arith in rw e (mul-div-mul_right n p (lit< tt))

grown_cases : (s p n d : ℕ) → 0 < p → s * p ≡ n → (b : Bool) → nat_le s significant_end ≡ b → min (min s significant_end * (p * 10) + d) significant_end ≡ min (10 * n + d) significant_end
grown_cases s p n d some e true test =
    let h : s ≤ significant_end = grind (arith, nat_tests) in
    let whole : min s significant_end ≡ s = omega arith in
    let more : s * (p * 10) ≡ 10 * n = omega (arith, e) in
    rw (whole, more) refl
grown_cases s p n d some e false test =
    let h : significant_end ≤ s = grind (arith, nat_tests) in
    let one : 1 ≤ p * 10 = omega arith in
    let end : min s significant_end ≡ significant_end = omega arith in
    let left : significant_end * 1 ≤ significant_end * (p * 10) = mul-le-mul_left significant_end one in
    let right : significant_end * 1 ≤ significant_end * p = mul-le-mul_left significant_end some in
    let large : significant_end * p ≤ s * p = mul-le-mul_right p h in
    rw end (omega arith)

grown_same : (s p n d : ℕ) → 0 < p → s * p ≡ n → min (min s significant_end * (p * 10) + d) significant_end ≡ min (10 * n + d) significant_end
grown_same s p n d some e = grown_cases s p n d some e (nat_le s significant_end) refl

ten_step : (t : ℕ) → 10 ^ (t + 1) ≡ 10 ^ t * 10
ten_step t = rw (add-one, pow-suc) refl

pub kept_some : (count n : ℕ) → 0 < n → kept count n ≡ record { significant = min (n / 10 ^ tens_in count n) significant_end; zeros = tens_in count n }
kept_some count n some = let e : (n == 0) ≡ false = grind (arith, nat_tests) in rw e refl

grown_kept : (count n d : ℕ) → min ((kept count n).significant * 10 ^ ((kept count n).zeros + 1) + d) significant_end ≡ min (10 * n + d) significant_end
grown_kept count zero d = refl
grown_kept count (suc n) d =
    rw (kept_some count (suc n) (omega arith), ten_step (tens_in count (suc n))) (grown_same _ _ (suc n) d (pow_pos_ten (tens_in count (suc n))) (stripped_whole count (suc n)))

kept_digit : (count n d : ℕ) → 0 < d → d < 10 → with_digit (kept count n) d ≡ kept (count + 1) (10 * n + d)
kept_digit count n d some small =
    let e : (d == 0) ≡ false = grind (arith, nat_tests) in
    let f : kept (count + 1) (10 * n + d) ≡ record { significant = min (10 * n + d) significant_end; zeros = 0 } = kept_some (count + 1) (10 * n + d) (omega arith) ∙ rw (no_zeros count n d some small, div-one) refl in
    rw (e, f) (ap (λ x. record { significant = x; zeros = 0 }) (grown_kept count n d))

pub some_part : (s p n : ℕ) → s * p ≡ n → 0 < n → 0 < s
some_part zero p n e some = absurd (omega (arith, zero-mul p, e))
some_part (suc s) p n e some = omega arith

kept_zero : (count n : ℕ) → with_digit (kept count n) 0 ≡ kept (count + 1) (10 * n)
kept_zero count zero = refl
kept_zero count (suc n) =
    let t = tens_in count (suc n) in
    let part : 0 < suc n / 10 ^ t = some_part _ (10 ^ t) (suc n) (stripped_whole count (suc n)) (omega arith) in
    let e : (min (suc n / 10 ^ t) significant_end == 0) ≡ false = grind (arith, nat_tests) in
    let z : tens_in (count + 1) (10 * suc n) ≡ t + 1 = zero_more count (10 * suc n) (suc n) refl in
    let q : 10 * suc n / 10 ^ (t + 1) ≡ suc n / 10 ^ t = rw (ten_step t) (less_zeros (suc n) (10 ^ t) (pow_pos_ten t)) in
    rw (kept_some count (suc n) (omega arith), e, kept_some (count + 1) (10 * suc n) (omega arith), z, q) refl

pub kept_more : (count n d : ℕ) → d < 10 → with_digit (kept count n) d ≡ kept (count + 1) (10 * n + d)
kept_more count n zero small = kept_zero count n ∙ ap (kept (count + 1)) (sym (add-zero (10 * n)))
kept_more count n (suc d) small = kept_digit count n (suc d) (omega arith) small

kept_if : (b : Bool) (x : Option Digits) (f : ℕ → Digits) (v : Option ℕ) → (b ≡ true → x ≡ option_map f v) → (if b then x else None) ≡ option_map f (if b then v else None)
kept_if true x f v h = h refl
kept_if false x f v h = refl

pub kept_all : (count n : ℕ) (cs : List ℕ) → kept_on (kept count n) cs ≡ option_map (kept (count + length cs)) (digits_on n cs)
kept_all count n [] = ap (λ m. Some (kept m n)) (sym (add-zero count))
kept_all count n (c ∷ cs) =
    kept_if (is_ascii_digit c) _ (kept (count + suc (length cs))) _ (λ digit.
    rw (kept_more count n (c - 48) (digit_small c digit)) (kept_all (count + 1) (10 * n + (c - 48)) cs ∙ ap (λ m. option_map (kept m) (digits_on (10 * n + (c - 48)) cs)) (omega arith)))
