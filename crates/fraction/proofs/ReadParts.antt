-- The parts of a literal round its marks, and the value that they give.
use Rattle.std.proofs.Common.{zero, suc, ◌≡◌, ◌∙◌, ℕ, ◌+◌, ◌-◌, ◌*◌, ◌/◌, ◌^◌, ◌<◌, ◌≤◌, refl, sym, ap, subst, arith, Bool, true, false, List, [], ◌∷◌, ◌++◌, length, take, drop, lit≤, min, length-append, nat_le, inl, inr, append-nil}
use Rattle.std.proofs.lemmas.Bool.Decides.{nat_tests}
use Rattle.std.proofs.lemmas.Grind.{common_steps}
use Rattle.std.proofs.lemmas.Int.{ints}
use Rattle.std.proofs.lemmas.List.Splits.{slice_split_none, slice_split_first, length-slice_split}
use Rattle.std.proofs.lemmas.List.Sums.{fails_before_first}
use Rattle.std.specs.Prelude.{ℤ, pos, neg_ℤ, ◌+ℤ◌, ◌-ℤ◌, ◌==◌, ◌&&◌, ◌⊎◌, unsigned_abs, Ok, Err, Some, None, if◌then◌else◌}
use Rattle.std.specs.declared.option.Option.{Option}
use Rattle.std.specs.Option.{option_map, option_and_then}
use Rattle.std.specs.List.{slice_split, position, position_or_len, count_by}
use Rattle.std.specs.Char.{is_ascii_digit}
use Rattle.rational.specs.Rational.{Rational}
use Rattle.fraction.specs.Fits.{part_max, fits}
use Rattle.fraction.specs.Literal.{is_point, is_exponent_mark, digits_on, digits_of, tens_in, mantissa_in, mantissa_of, mantissa_with, exponent_of, Decimal, decimal_of, decimal_with, decimal_in, literal_of, fitting, scaled, signed_value}
use Rattle.fraction.specs.Literal.{Mantissa as Written}
use Rattle.fraction.specs.Reading.{significant_end, exponent_end, kept, with_digit, kept_on, kept_mantissa, clipped, clipped_digits_of, clipped_exponent_of, power_within, power_with, power_of, value_of}
use Rattle.fraction.specs.declared.read.Digits.{Digits}
use Rattle.fraction.specs.declared.read.Mantissa.{Mantissa}
use Rattle.fraction.specs.declared.read.Power.{Power}
use Rattle.fraction.specs.declared.read.ReadFault.{ReadFault}
use Rattle.fraction.specs.declared.read.ReadFault.TheVariants.{NotANumber, TooWide}
use Rattle.fraction.proofs.LiteralLemmas.{if_some, not_digit, digit-not-point, digit-not-mark, stripped_whole}
use Rattle.fraction.proofs.ReadLemmas.{kept_all, ten_power_small, ten_power_large, kept_some, some_part}

-- ---- pieces

pub one_piece : (p : ℕ → Bool) (xs : List ℕ) → position p xs ≡ None → slice_split p xs ≡ xs ∷ []
one_piece p xs none =
    let past : length xs ≤ position_or_len p xs = grind (arith, common_steps) in
    slice_split_none p xs (λ k d l. fails_before_first p xs k d (omega arith))

pub first_piece : (p : ℕ → Bool) (xs : List ℕ) (i : ℕ) → position p xs ≡ Some i → slice_split p xs ≡ take i xs ∷ slice_split p (drop (i + 1) xs)
first_piece p xs i is =
    let at : position_or_len p xs ≡ i = grind (arith, common_steps) in
    let inside : position_or_len p xs < length xs = grind (arith, common_steps) in
    slice_split_first p xs 0 inside ∙ ap (λ n. take n xs ∷ slice_split p (drop (n + 1) xs)) at

-- a list in which an element passes is no number
pub none_unless : {A : Type 0} (o : Option A) → ((v : A) → o ≡ Some v → ⊥) → o ≡ None
none_unless None h = refl
none_unless (Some v) h = absurd (h v refl)

two_pieces : {A : Type 0} (x y : A) (xs ys : List A) → x ∷ xs ≡ y ∷ [] → length xs ≡ 0
two_pieces x y xs ys e = let n = ap length e in omega arith

pub no_digits : (p : ℕ → Bool) → ((c : ℕ) → is_ascii_digit c ≡ true → p c ≡ false) → (n : ℕ) (xs : List ℕ) (i : ℕ) → position p xs ≡ Some i → digits_on n xs ≡ None
no_digits p other n xs i is = none_unless (digits_on n xs) (λ v h.
    let one = not_digit p other n v xs h in
    let more = length-slice_split p (drop (i + 1) xs) in
    let e : take i xs ∷ slice_split p (drop (i + 1) xs) ≡ xs ∷ [] = sym (first_piece p xs i is) ∙ one in
    let short = two_pieces _ _ _ [] e in
    omega arith)

pub digits_some : (xs : List ℕ) (v : ℕ) → digits_of xs ≡ Some v → digits_on 0 xs ≡ Some v
digits_some [] v h = absurd cc
digits_some (c ∷ cs) v h = h

digits_tail : (n v : ℕ) (a rest : List ℕ) → digits_on n (a ++ rest) ≡ Some v → (m : ℕ) × (digits_on m rest ≡ Some v)
digits_tail n v [] rest h = (n, h)
digits_tail n v (c ∷ cs) rest h = digits_tail (10 * n + (c - 48)) v cs rest (if_some (is_ascii_digit c) _ v h).1

-- ---- mantissas

map_none : {A B : Type 0} (f : A → B) (o : Option A) → o ≡ None → None ≡ option_map f o
map_none f o e = sym (ap (option_map f) e)

pub not_some : {A : Type 0} (v : A) → Some v ≡ None → ⊥
not_some v h = cc

rest_pieces : (front rest : List ℕ) (o : Option ℕ) → position is_point rest ≡ o → mantissa_in (front ∷ slice_split is_point rest) ≡ mantissa_with (front ++ rest) (length rest)
rest_pieces front rest None e = ap (λ pieces. mantissa_in (front ∷ pieces)) (one_piece is_point rest e)
rest_pieces front rest (Some j) e =
    let none : digits_of (front ++ rest) ≡ None = none_unless _ (λ v h. let t = digits_tail 0 v front rest (digits_some (front ++ rest) v h) in not_some v (sym t.1 ∙ no_digits is_point digit-not-point t.0 rest j e)) in
    ap (λ pieces. mantissa_in (front ∷ pieces)) (first_piece is_point rest j e) ∙ many (slice_split is_point (drop (j + 1) rest)) (length-slice_split is_point (drop (j + 1) rest)) ∙ map_none _ _ none
  where
    many : (pieces : List (List ℕ)) → length pieces ≡ count_by is_point (drop (j + 1) rest) + 1 → mantissa_in (front ∷ take j rest ∷ pieces) ≡ None
    many [] l = absurd (omega arith)
    many (piece ∷ pieces) l = refl

pub mantissa_halves : (text rest : List ℕ) (i : ℕ) → position is_point text ≡ Some i → rest ≡ drop (i + 1) text → mantissa_of text ≡ mantissa_with (take i text ++ rest) (length rest)
mantissa_halves text rest i e r = ap mantissa_in (first_piece is_point text i e) ∙ rest_pieces (take i text) (drop (i + 1) text) _ refl ∙ ap (λ ps. mantissa_with (take i text ++ ps) (length ps)) (sym r)

pub mantissa_whole : (text : List ℕ) → position is_point text ≡ None → mantissa_of text ≡ mantissa_with (text ++ []) 0
mantissa_whole text e = ap mantissa_in (one_piece is_point text e) ∙ ap (λ ds. mantissa_with ds 0) (sym (append-nil text))

maps : (count places : ℕ) (o : Option ℕ) → option_map kept_mantissa (option_map (λ n. record { number = n; digits = count; places = places }) o) ≡ option_map (λ k. record { digits = k; places = places }) (option_map (kept count) o)
maps count places None = refl
maps count places (Some n) = refl

then_if : (b : Bool) (x y : Option Digits) (f : Digits → Option Digits) → x ≡ option_and_then f y → (if b then x else None) ≡ option_and_then f (if b then y else None)
then_if true x y f h = h
then_if false x y f h = refl

on_append : (k : Digits) (a b : List ℕ) → kept_on k (a ++ b) ≡ option_and_then (λ m. kept_on m b) (kept_on k a)
on_append k [] b = refl
on_append k (c ∷ cs) b = then_if (is_ascii_digit c) _ _ (λ m. kept_on m b) (on_append (with_digit k (c - 48)) cs b)

digits_all : (xs : List ℕ) → 0 < length xs → digits_of xs ≡ digits_on 0 xs
digits_all [] some = absurd (omega arith)
digits_all (c ∷ cs) some = refl

pub kept_round : (digits places : List ℕ) → 0 < length digits + length places
    → option_map kept_mantissa (mantissa_with (digits ++ places) (length places)) ≡ option_map (λ k. record { digits = k; places = length places }) (option_and_then (λ m. kept_on m places) (kept_on (record { significant = 0; zeros = 0 }) digits))
kept_round digits places some =
    let all = digits ++ places in
    let f = λ (k : Digits). let m : Mantissa = record { digits = k; places = length places } in m in
    let e : digits_of all ≡ digits_on 0 all = digits_all all (omega (arith, length-append digits places)) in
    ap (λ o. option_map kept_mantissa (option_map (λ n. record { number = n; digits = length all; places = length places }) o)) e
    ∙ maps (length all) (length places) (digits_on 0 all)
    ∙ ap (λ n. option_map f (option_map (kept n) (digits_on 0 all))) (omega arith)
    ∙ ap (option_map f) (sym (kept_all 0 0 all) ∙ on_append _ digits places)

-- the same where a step gave this
pub round_is : (digits places : List ℕ) (whole all : Option Digits) (result : Option Mantissa) → 0 < length digits + length places → whole ≡ kept_on (record { significant = 0; zeros = 0 }) digits
    → all ≡ option_and_then (λ m. kept_on m places) whole → result ≡ option_map (λ k. record { digits = k; places = length places }) all
    → result ≡ option_map kept_mantissa (mantissa_with (digits ++ places) (length places))
round_is digits places whole all result some e f g = rw (g, f, e) (sym (kept_round digits places some))

-- ---- exponents

pub one_not_two : (p : ℕ → Bool) (xs : List ℕ) (i : ℕ) → position p xs ≡ Some i → slice_split p xs ≡ xs ∷ [] → ⊥
one_not_two p xs i is one =
    let more = length-slice_split p (drop (i + 1) xs) in
    let e : take i xs ∷ slice_split p (drop (i + 1) xs) ≡ xs ∷ [] = sym (first_piece p xs i is) ∙ one in
    let short = two_pieces _ _ _ [] e in
    omega arith

digits_piece : (cs : List ℕ) (v : ℕ) → digits_of cs ≡ Some v → slice_split is_exponent_mark cs ≡ cs ∷ []
digits_piece cs v h = not_digit is_exponent_mark digit-not-mark 0 v cs (digits_some cs v h)

sign_piece : (c v : ℕ) (cs : List ℕ) → is_exponent_mark c ≡ false → digits_of cs ≡ Some v → slice_split is_exponent_mark (c ∷ cs) ≡ (c ∷ cs) ∷ []
sign_piece c v cs e h = rw (e, digits_piece cs v h) refl

pub mapped : {A B : Type 0} (f : A → B) (o : Option A) (b : B) → option_map f o ≡ Some b → (a : A) × (o ≡ Some a) × (f a ≡ b)
mapped f None b h = absurd cc
mapped f (Some a) b h = (a, refl, cc)

exponent_by : (minus plus : Bool) (c : ℕ) (cs : List ℕ) (z : ℤ) → (c == 45) ≡ minus → (c == 43) ≡ plus
    → (if minus then option_map (λ n. neg_ℤ (pos n)) (digits_of cs) else if plus then option_map pos (digits_of cs) else option_map pos (digits_of (c ∷ cs))) ≡ Some z
    → slice_split is_exponent_mark (c ∷ cs) ≡ (c ∷ cs) ∷ []
exponent_by true plus c cs z m p h = let v = mapped (λ n. neg_ℤ (pos n)) (digits_of cs) z h in sign_piece c v.0 cs (grind (arith, nat_tests)) v.1
exponent_by false true c cs z m p h = let v = mapped pos (digits_of cs) z h in sign_piece c v.0 cs (grind (arith, nat_tests)) v.1
exponent_by false false c cs z m p h = let v = mapped pos (digits_of (c ∷ cs)) z h in digits_piece (c ∷ cs) v.0 v.1

exponent_piece : (cs : List ℕ) (z : ℤ) → exponent_of cs ≡ Some z → slice_split is_exponent_mark cs ≡ cs ∷ []
exponent_piece [] z h = refl
exponent_piece (c ∷ cs) z h = exponent_by (c == 45) (c == 43) c cs z refl refl h

without_exponent : (o : Option Written) → option_and_then (decimal_with None) o ≡ None
without_exponent None = refl
without_exponent (Some a) = refl

rest_marks : (front rest : List ℕ) (o : Option ℕ) → position is_exponent_mark rest ≡ o → decimal_in (front ∷ slice_split is_exponent_mark rest) ≡ option_and_then (decimal_with (exponent_of rest)) (mantissa_of front)
rest_marks front rest None e = ap (λ pieces. decimal_in (front ∷ pieces)) (one_piece is_exponent_mark rest e)
rest_marks front rest (Some j) e =
    let none : exponent_of rest ≡ None = none_unless (exponent_of rest) (λ z h. one_not_two is_exponent_mark rest j e (exponent_piece rest z h)) in
    ap (λ pieces. decimal_in (front ∷ pieces)) (first_piece is_exponent_mark rest j e) ∙ many (slice_split is_exponent_mark (drop (j + 1) rest)) (length-slice_split is_exponent_mark (drop (j + 1) rest))
    ∙ sym (ap (λ x. option_and_then (decimal_with x) (mantissa_of front)) none ∙ without_exponent (mantissa_of front))
  where
    many : (pieces : List (List ℕ)) → length pieces ≡ count_by is_exponent_mark (drop (j + 1) rest) + 1 → decimal_in (front ∷ take j rest ∷ pieces) ≡ None
    many [] l = absurd (omega arith)
    many (piece ∷ pieces) l = refl

pub literal_halves : (text rest : List ℕ) (i : ℕ) → position is_exponent_mark text ≡ Some i → rest ≡ drop (i + 1) text → literal_of text ≡ option_and_then (decimal_with (exponent_of rest)) (mantissa_of (take i text))
literal_halves text rest i e r = ap decimal_in (first_piece is_exponent_mark text i e) ∙ rest_marks (take i text) (drop (i + 1) text) _ refl ∙ ap (λ ps. option_and_then (decimal_with (exponent_of ps)) (mantissa_of (take i text))) (sym r)

pub literal_whole : (text : List ℕ) → position is_exponent_mark text ≡ None → literal_of text ≡ option_and_then (decimal_with (Some (pos 0))) (mantissa_of text)
literal_whole text e = ap decimal_in (one_piece is_exponent_mark text e)

-- ---- exponents up to the limit

-- the same exponent, or both past every text's length
abbrev pub IsNear : ℤ → ℤ → Type 0
IsNear z w = (w ≡ z) ⊎ ((exponent_end ≤ unsigned_abs z) × (exponent_end ≤ unsigned_abs w))

clip_near : (n : ℕ) (b : Bool) → nat_le n exponent_end ≡ b → (clipped exponent_end n ≡ n) ⊎ ((exponent_end ≤ n) × (exponent_end ≤ clipped exponent_end n))
clip_near n true e = inl (grind (arith, nat_tests))
clip_near n false e = inr (grind (arith, nat_tests), grind (arith, nat_tests))

plus_near : (n m : ℕ) → (m ≡ n) ⊎ ((exponent_end ≤ n) × (exponent_end ≤ m)) → IsNear (pos n) (pos m)
plus_near n m (inl e) = inl (ap pos e)
plus_near n m (inr h) = inr h

minus_near : (n m : ℕ) → (m ≡ n) ⊎ ((exponent_end ≤ n) × (exponent_end ≤ m)) → IsNear (neg_ℤ (pos n)) (neg_ℤ (pos m))
minus_near n m (inl e) = inl (ap (λ k. neg_ℤ (pos k)) e)
minus_near n m (inr h) = inr (omega (arith, ints), omega (arith, ints))

digits_near : (cs : List ℕ) (m : ℕ) → clipped_digits_of exponent_end cs ≡ Some m → (n : ℕ) × (digits_of cs ≡ Some n) × ((m ≡ n) ⊎ ((exponent_end ≤ n) × (exponent_end ≤ m)))
digits_near cs m h = by (digits_of cs) refl h
  where
    by : (o : Option ℕ) → digits_of cs ≡ o → option_map (clipped exponent_end) o ≡ Some m → (n : ℕ) × (digits_of cs ≡ Some n) × ((m ≡ n) ⊎ ((exponent_end ≤ n) × (exponent_end ≤ m)))
    by None e h = absurd cc
    by (Some n) e h = let same : clipped exponent_end n ≡ m = cc in (n, e, subst (λ k. (k ≡ n) ⊎ ((exponent_end ≤ n) × (exponent_end ≤ k))) same (clip_near n (nat_le n exponent_end) refl))

sign_near : (sign : ℤ → ℤ) → ((n m : ℕ) → (m ≡ n) ⊎ ((exponent_end ≤ n) × (exponent_end ≤ m)) → IsNear (sign (pos n)) (sign (pos m)))
    → (cs : List ℕ) (w : ℤ) → option_map (λ n. sign (pos n)) (clipped_digits_of exponent_end cs) ≡ Some w → (z : ℤ) × (option_map (λ n. sign (pos n)) (digits_of cs) ≡ Some z) × IsNear z w
sign_near sign near cs w h =
    let m = mapped (λ n. sign (pos n)) (clipped_digits_of exponent_end cs) w h in
    let n = digits_near cs m.0 m.1 in
    let same : sign (pos m.0) ≡ w = some_same (sym (ap (option_map (λ k. sign (pos k))) m.1) ∙ h) in
    (sign (pos n.0), ap (option_map (λ k. sign (pos k))) n.1, subst (IsNear (sign (pos n.0))) same (near n.0 m.0 n.2))
  where
    some_same : {x y : ℤ} → Some x ≡ Some y → x ≡ y
    some_same e = cc

near_by : (minus plus : Bool) (c : ℕ) (cs : List ℕ) (w : ℤ)
    → (if minus then option_map (λ n. neg_ℤ (pos n)) (clipped_digits_of exponent_end cs) else if plus then option_map pos (clipped_digits_of exponent_end cs) else option_map pos (clipped_digits_of exponent_end (c ∷ cs))) ≡ Some w
    → (z : ℤ) × ((if minus then option_map (λ n. neg_ℤ (pos n)) (digits_of cs) else if plus then option_map pos (digits_of cs) else option_map pos (digits_of (c ∷ cs))) ≡ Some z) × IsNear z w
near_by true plus c cs w h = sign_near neg_ℤ minus_near cs w h
near_by false true c cs w h = sign_near (λ z. z) plus_near cs w h
near_by false false c cs w h = sign_near (λ z. z) plus_near (c ∷ cs) w h

pub exponent_near : (cs : List ℕ) (w : ℤ) → clipped_exponent_of cs ≡ Some w → (z : ℤ) × (exponent_of cs ≡ Some z) × IsNear z w
exponent_near [] w h = absurd cc
exponent_near (c ∷ cs) w h = near_by (c == 45) (c == 43) c cs w h

-- ---- powers

within_past : (m : ℕ) (x : ℤ) → 38 < unsigned_abs x → power_within m x ≡ Err TooWide
within_past m x h = let e : nat_le (unsigned_abs x) 38 ≡ false = grind (arith, nat_tests) in rw e (by (nat_le m part_max))
  where
    power : Power
    power = record { number = m; exponent = x }

    by : (b : Bool) → (if b && false then Ok power else Err TooWide) ≡ Err TooWide
    by true = refl
    by false = refl

far_past : (z : ℤ) (p t : ℕ) → exponent_end ≤ unsigned_abs z → p < 2 ^ 64 → t < 2 ^ 64 → 38 < unsigned_abs (z -ℤ pos p +ℤ pos t)
far_past z p t h k l = omega (arith, ints)

pub power_near : (a : Mantissa) (z w : ℤ) → IsNear z w → a.places < 2 ^ 64 → a.digits.zeros < 2 ^ 64 → power_with a w ≡ power_with a z
power_near a z w (inl e) k l = ap (power_with a) e
power_near a z w (inr h) k l =
    let left = within_past a.digits.significant (w -ℤ pos a.places +ℤ pos a.digits.zeros) (far_past w a.places a.digits.zeros h.1 k l) in
    let right = within_past a.digits.significant (z -ℤ pos a.places +ℤ pos a.digits.zeros) (far_past z a.places a.digits.zeros h.0 k l) in
    rw (left, right) refl

min_within : (m : ℕ) (x : ℤ) (b : Bool) → nat_le m part_max ≡ b → power_within (min m significant_end) x ≡ power_within m x
min_within m x true e = let same : min m significant_end ≡ m = grind (arith, nat_tests) in rw same refl
min_within m x false e = let past : nat_le (min m significant_end) part_max ≡ false = grind (arith, nat_tests) in rw (past, e) refl

pub power_kept : (number digits places : ℕ) (e : ℤ) → power_with (record { digits = kept digits number; places = places }) e ≡ power_of (Some (decimal_of (record { number = number; digits = digits; places = places }) e))
power_kept zero digits places e = refl
power_kept (suc n) digits places e =
    let t = tens_in digits (suc n) in
    let some : 0 < suc n / 10 ^ t = some_part _ (10 ^ t) (suc n) (stripped_whole digits (suc n)) (omega arith) in
    let z : (suc n == 0) ≡ false = grind (arith, nat_tests) in
    let s : (min (suc n / 10 ^ t) significant_end == 0) ≡ false = grind (arith, nat_tests) in
    rw (kept_some digits (suc n) (omega arith), z, s) (min_within (suc n / 10 ^ t) (e -ℤ pos places +ℤ pos t) (nat_le (suc n / 10 ^ t) part_max) refl)

-- ---- values

power_test : (k : ℕ) (b : Bool) → nat_le k 38 ≡ b → nat_le (10 ^ k) part_max ≡ b
power_test k true e =
    let few = ten_power_small k (grind (arith, nat_tests)) in
    let top : 10 ^ 38 ≤ part_max = lit≤ tt in
    grind (arith, nat_tests)
power_test k false e =
    let many = ten_power_large k (grind (arith, nat_tests)) in
    let top : part_max + 1 ≤ 10 ^ 39 = lit≤ tt in
    grind (arith, nat_tests)

err_by : (a b f : Bool) (x : Power) (v : Rational) (fault : ReadFault) → (if a && b then Ok x else Err TooWide) ≡ Err fault → (if a && (b && f) then Ok v else Err TooWide) ≡ Err fault
err_by true true f x v fault h = absurd cc
err_by true false f x v fault h = cc
err_by false b f x v fault h = cc

ok_by : (a b f : Bool) (x y : Power) (v : Rational) → (if a && b then Ok x else Err TooWide) ≡ Ok y → ((if a && (b && f) then Ok v else Err TooWide) ≡ (if f then Ok v else Err TooWide)) × (x ≡ y)
ok_by true true f x y v h = (refl, cc)
ok_by true false f x y v h = absurd cc
ok_by false b f x y v h = absurd cc

fitting_is : (d : Decimal) (v : Rational) → fitting d v ≡ (if nat_le d.m part_max && (nat_le (unsigned_abs d.e) 38 && fits v) then Ok v else Err TooWide)
fitting_is d v = rw (power_test (unsigned_abs d.e) (nat_le (unsigned_abs d.e) 38) refl) refl

pub signed_fault : (sign : ℤ → ℤ) (o : Option Decimal) (fault : ReadFault) → power_of o ≡ Err fault → Err fault ≡ signed_value sign o
signed_fault sign None fault h = cc
signed_fault sign (Some d) fault h = sym (fitting_is d (scaled (sign (pos d.m)) d.e) ∙ err_by (nat_le d.m part_max) (nat_le (unsigned_abs d.e) 38) (fits (scaled (sign (pos d.m)) d.e)) _ _ fault h)

pub signed_power : (sign : ℤ → ℤ) (o : Option Decimal) (p : Power) → power_of o ≡ Ok p → value_of (scaled (sign (pos p.number)) p.exponent) ≡ signed_value sign o
signed_power sign None p h = absurd cc
signed_power sign (Some d) p h =
    let v = scaled (sign (pos d.m)) d.e in
    let both = ok_by (nat_le d.m part_max) (nat_le (unsigned_abs d.e) 38) (fits v) (record { number = d.m; exponent = d.e }) p v h in
    ap (λ (q : Power). value_of (scaled (sign (pos q.number)) q.exponent)) (sym both.1) ∙ sym (fitting_is d v ∙ both.0)

-- what a literal's power is, by what was found of its parts
power_none : (exponent : Option ℤ) (o : Option Written) → None ≡ option_map kept_mantissa o → Err NotANumber ≡ power_of (option_and_then (decimal_with exponent) o)
power_none exponent None h = refl
power_none exponent (Some a) h = absurd (not_some (kept_mantissa a) (sym h))

pub no_mantissa : (exponent : Option ℤ) (text : List ℕ) → option_map kept_mantissa (mantissa_of text) ≡ None → Err NotANumber ≡ power_of (option_and_then (decimal_with exponent) (mantissa_of text))
no_mantissa exponent text h = power_none exponent (mantissa_of text) (sym h)

kept_is : (o : Option Written) (m : Mantissa) → option_map kept_mantissa o ≡ Some m → (a : Written) × (o ≡ Some a) × (kept_mantissa a ≡ m)
kept_is None m h = absurd cc
kept_is (Some a) m h = (a, refl, cc)

pub power_found : (z : ℤ) (text : List ℕ) (m : Mantissa) → option_map kept_mantissa (mantissa_of text) ≡ Some m → power_with m z ≡ power_of (option_and_then (decimal_with (Some z)) (mantissa_of text))
power_found z text m h =
    let k = kept_is (mantissa_of text) m h in
    ap (λ x. power_with x z) (sym k.2) ∙ power_kept k.0.number k.0.digits k.0.places z ∙ sym (ap (λ o. power_of (option_and_then (decimal_with (Some z)) o)) k.1)

pub power_raised : (w : ℤ) (raised text : List ℕ) (m : Mantissa) → clipped_exponent_of raised ≡ Some w → option_map kept_mantissa (mantissa_of text) ≡ Some m → m.places < 2 ^ 64 → m.digits.zeros < 2 ^ 64
    → power_with m w ≡ power_of (option_and_then (decimal_with (exponent_of raised)) (mantissa_of text))
power_raised w raised text m e h k l =
    let z = exponent_near raised w e in
    power_near m z.0 w z.2 k l ∙ power_found z.0 text m h ∙ sym (ap (λ x. power_of (option_and_then (decimal_with x) (mantissa_of text))) z.1)
