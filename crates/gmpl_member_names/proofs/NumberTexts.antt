-- The bytes of a number's text, and that different numbers have different texts.
use Rattle.std.proofs.Common.{◌≡◌, ◌∙◌, ◌<◌, ◌≤◌, ◌+◌, ◌%◌, ◌^◌, ℕ, suc, ℤ, pos, negsuc, Bool, true, false, cond, ◌||◌, ◌&&◌, List, [], ◌∷◌, ◌++◌, append-nil, refl, sym, ap, subst, arith, unsigned_abs}
use Rattle.std.specs.Prelude.{◌==◌}
use Rattle.std.specs.List.{list_all}
use Rattle.std.specs.Char.{is_ascii_digit}
use Rattle.std.specs.Fmt.{decimal, signed_decimal}
use Rattle.std.specs.Str.Parse.{digits_value}
use Rattle.std.proofs.lemmas.Bool.{and_from}
use Rattle.std.proofs.lemmas.Bool.Decides.{nat_tests}
use Rattle.std.proofs.lemmas.Fmt.{decimal_by_steps_wide, decimal_is_IsNumeral_wide}
use Rattle.std.proofs.lemmas.List.Folds.{list_all-append}
use Rattle.rational.specs.Rational.{Rational}
use Rattle.rational.proofs.Laws.{same_parts}
use Rattle.fraction.specs.Text.{text_of}
use Rattle.gmpl_member_names.proofs.Split.{Stops, Starts, same_front}

-- bytes of a whole number
abbrev pub is_whole_byte : ℕ → Bool
is_whole_byte c = is_ascii_digit c || (c == 45)

-- bytes of a number
abbrev pub is_number_byte : ℕ → Bool
is_number_byte c = is_whole_byte c || (c == 47)

record Digits (ds : List ℕ) : Type 0 where
  all : list_all is_ascii_digit ds ≡ true
  starts : Starts is_ascii_digit ds

decimal_digits : (n : ℕ) → n < 10 ^ 64 → Digits (decimal n)
decimal_digits n small = decimal_by_steps_wide (λ m ds. Digits ds) one more n small
  where
    digit : (d : ℕ) → d < 10 → is_ascii_digit (48 + d) ≡ true
    digit d h = grind (arith, nat_tests)

    one : (m : ℕ) → m < 10 → Digits ((48 + m) ∷ [])
    one m h = record { all = and_from (is_ascii_digit (48 + m)) true (digit m h) refl; starts = digit m h }

    starts_on : (ds es : List ℕ) → Starts is_ascii_digit ds → Starts is_ascii_digit (ds ++ es)
    starts_on [] es never = absurd never
    starts_on (d ∷ ds) es h = h

    more : (m : ℕ) (ds : List ℕ) → 10 ≤ m → Digits ds → Digits (ds ++ ((48 + m % 10) ∷ []))
    more m ds h before =
        let last : is_ascii_digit (48 + m % 10) ≡ true = digit (m % 10) (omega arith) in
        record {
          all = list_all-append is_ascii_digit ds ((48 + m % 10) ∷ []) ∙ and_from (list_all is_ascii_digit ds) (is_ascii_digit (48 + m % 10) && true) before.all (and_from (is_ascii_digit (48 + m % 10)) true last refl);
          starts = starts_on ds ((48 + m % 10) ∷ []) before.starts;
        }

all_of : (p q : ℕ → Bool) → ((c : ℕ) → p c ≡ true → q c ≡ true) → (s : List ℕ) → list_all p s ≡ true → list_all q s ≡ true
all_of p q h [] all = refl
all_of p q h (c ∷ cs) all =
    let parts = both (p c) (list_all p cs) all in
    and_from (q c) (list_all q cs) (h c parts.0) (all_of p q h cs parts.1)
  where
    both : (x y : Bool) → (x && y) ≡ true → (x ≡ true) × (y ≡ true)
    both true true e = (refl, refl)
    both true false e = absurd cc
    both false y e = absurd cc

or_left : (x y : Bool) → x ≡ true → (x || y) ≡ true
or_left true y h = refl
or_left false y h = absurd cc

digit-whole : (c : ℕ) → is_ascii_digit c ≡ true → is_whole_byte c ≡ true
digit-whole c h = or_left (is_ascii_digit c) (c == 45) h

whole-number : (c : ℕ) → is_whole_byte c ≡ true → is_number_byte c ≡ true
whole-number c h = or_left (is_whole_byte c) (c == 47) h

starts_as : (p q : ℕ → Bool) → ((c : ℕ) → p c ≡ true → q c ≡ true) → (s : List ℕ) → Starts p s → Starts q s
starts_as p q h [] never = never
starts_as p q h (c ∷ cs) e = h c e

record Signed (z : ℤ) : Type 0 where
  all : list_all is_whole_byte (signed_decimal z) ≡ true
  starts : Starts is_whole_byte (signed_decimal z)

signed_bytes : (z : ℤ) → unsigned_abs z < 10 ^ 64 → Signed z
signed_bytes (pos n) small =
    let d = decimal_digits n small in
    record { all = all_of is_ascii_digit is_whole_byte digit-whole (decimal n) d.all; starts = starts_as is_ascii_digit is_whole_byte digit-whole (decimal n) d.starts }
signed_bytes (negsuc n) small =
    let d = decimal_digits (suc n) small in
    record { all = all_of is_ascii_digit is_whole_byte digit-whole (decimal (suc n)) d.all; starts = refl }

starts_before : (p : ℕ → Bool) (s t : List ℕ) → Starts p s → Starts p (s ++ t)
starts_before p [] t never = absurd never
starts_before p (c ∷ cs) t h = h

-- the text of a number has its bytes alone, and a first one that is no slash
pub record NumberText (q : Rational) : Type 0 where
  pub all : list_all is_number_byte (text_of q) ≡ true
  pub starts : Starts is_whole_byte (text_of q)

pub number_text : (q : Rational) → unsigned_abs q.numerator < 10 ^ 64 → q.denominator < 10 ^ 64 → NumberText q
number_text q n d = let both = by (q.denominator == 1) in record { all = both.0; starts = both.1 }
  where
    front : Signed q.numerator
    front = signed_bytes q.numerator n

    whole_all : list_all is_number_byte (signed_decimal q.numerator) ≡ true
    whole_all = all_of is_whole_byte is_number_byte whole-number (signed_decimal q.numerator) front.all

    below : list_all is_number_byte (decimal q.denominator) ≡ true
    below = all_of is_ascii_digit is_number_byte (λ c h. whole-number c (digit-whole c h)) (decimal q.denominator) (decimal_digits q.denominator d).all

    by : (b : Bool) → (list_all is_number_byte (cond b (signed_decimal q.numerator) (signed_decimal q.numerator ++ (47 ∷ decimal q.denominator))) ≡ true)
        × Starts is_whole_byte (cond b (signed_decimal q.numerator) (signed_decimal q.numerator ++ (47 ∷ decimal q.denominator)))
    by true = (whole_all, front.starts)
    by false = (
      list_all-append is_number_byte (signed_decimal q.numerator) (47 ∷ decimal q.denominator) ∙ and_from (list_all is_number_byte (signed_decimal q.numerator)) (list_all is_number_byte (decimal q.denominator)) whole_all below,
      starts_before is_whole_byte (signed_decimal q.numerator) (47 ∷ decimal q.denominator) front.starts,
    )

same_decimal : (m n : ℕ) → m < 10 ^ 64 → n < 10 ^ 64 → decimal m ≡ decimal n → m ≡ n
same_decimal m n h g e = sym (decimal_is_IsNumeral_wide m h).1 ∙ ap (digits_value 10) e ∙ (decimal_is_IsNumeral_wide n g).1

minus_first : (n : ℕ) (cs : List ℕ) → n < 10 ^ 64 → decimal n ≡ 45 ∷ cs → ⊥
minus_first n cs h e = let digit : is_ascii_digit 45 ≡ true = subst (Starts is_ascii_digit) e (decimal_digits n h).starts in cc

same_signed : (y z : ℤ) → unsigned_abs y < 10 ^ 64 → unsigned_abs z < 10 ^ 64 → signed_decimal y ≡ signed_decimal z → y ≡ z
same_signed (pos m) (pos n) h g e = ap pos (same_decimal m n h g e)
same_signed (pos m) (negsuc n) h g e = absurd (minus_first m (decimal (suc n)) h e)
same_signed (negsuc m) (pos n) h g e = absurd (minus_first n (decimal (suc m)) g (sym e))
same_signed (negsuc m) (negsuc n) h g e =
    let same : decimal (suc m) ≡ decimal (suc n) = cc in
    let sizes : suc m ≡ suc n = same_decimal (suc m) (suc n) h g same in
    ap negsuc (omega (arith, sizes))

-- what stands behind the numerator
abbrev behind : ℕ → List ℕ
behind d = cond (d == 1) [] (47 ∷ decimal d)

in_parts : (q : Rational) → text_of q ≡ signed_decimal q.numerator ++ behind q.denominator
in_parts q = by (q.denominator == 1)
  where
    by : (b : Bool) → cond b (signed_decimal q.numerator) (signed_decimal q.numerator ++ (47 ∷ decimal q.denominator)) ≡ signed_decimal q.numerator ++ cond b [] (47 ∷ decimal q.denominator)
    by true = sym (append-nil (signed_decimal q.numerator))
    by false = refl

behind_stops : (d : ℕ) → Stops is_whole_byte (behind d)
behind_stops d = by (d == 1)
  where
    by : (b : Bool) → Stops is_whole_byte (cond b [] (47 ∷ decimal d))
    by true = tt
    by false = refl

same_behind : (m n : ℕ) → m < 10 ^ 64 → n < 10 ^ 64 → behind m ≡ behind n → m ≡ n
same_behind m n h g e = by (m == 1) (n == 1) refl refl e
  where
    by : (a b : Bool) → (m == 1) ≡ a → (n == 1) ≡ b → cond a [] (47 ∷ decimal m) ≡ cond b [] (47 ∷ decimal n) → m ≡ n
    by true true p q e = let one : m ≡ 1 = grind (arith, nat_tests) in let also : n ≡ 1 = grind (arith, nat_tests) in one ∙ sym also
    by true false p q e = absurd cc
    by false true p q e = absurd cc
    by false false p q e = let same : decimal m ≡ decimal n = cc in same_decimal m n h g same

pub same_number : (q r : Rational) → unsigned_abs q.numerator < 10 ^ 64 → q.denominator < 10 ^ 64 → unsigned_abs r.numerator < 10 ^ 64 → r.denominator < 10 ^ 64 → text_of q ≡ text_of r → q ≡ r
same_number q r qn qd rn rd e =
    let parts = same_front is_whole_byte (signed_decimal q.numerator) (signed_decimal r.numerator) (behind q.denominator) (behind r.denominator)
    (signed_bytes q.numerator qn).all (signed_bytes r.numerator rn).all (behind_stops q.denominator) (behind_stops r.denominator) (sym (in_parts q) ∙ e ∙ in_parts r) in
    same_parts q r (same_signed q.numerator r.numerator qn rn parts.0) (same_behind q.denominator r.denominator qd rd parts.1)
