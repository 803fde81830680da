-- A text reads as the fraction whose text it is, and no other text does.
use Rattle.std.proofs.Common.{zero, suc, ◌≡◌, ◌∙◌, ℕ, ◌+◌, ◌-◌, ◌*◌, ◌/◌, ◌%◌, ◌^◌, ◌<◌, ◌≤◌, refl, sym, ap, arith, Bool, true, false, List, [], ◌∷◌, ◌++◌, length, take, drop, get_or, lit<, nat_le, eq-eqb, append_assoc, append-nil}
use Rattle.std.proofs.lemmas.Bool.Decides.{nat_tests}
use Rattle.std.proofs.lemmas.Fmt.{decimal_step_wide, decimal_digit, decimal_by_steps_wide}
use Rattle.std.proofs.lemmas.List.Splits.{length-slice_split}
use Rattle.std.proofs.lemmas.List.Quantifiers.{position-Some}
use Rattle.std.proofs.lemmas.List.{take-append-drop, drop_more}
use Rattle.std.specs.Fmt.{decimal, signed_decimal}
use Rattle.std.specs.Prelude.{ℤ, pos, negsuc, neg_ℤ, unsigned_abs, ◌==◌, ◌&&◌, ◌↔◌, IsTrue, Ok, Err, Some, None, if◌then◌else◌, cond}
use Rattle.std.specs.declared.option.Option.{Option}
use Rattle.std.specs.Option.{option_map, option_and_then}
use Rattle.std.specs.List.{slice_split, position, onto_first}
use Rattle.std.specs.Char.{is_ascii_digit}
use Rattle.integer.specs.Gcd.{gcd}
use Rattle.integer.specs.Lowest.{IsLowest}
use Rattle.std.proofs.lemmas.Bool.{leb-true, eqb-true}
use Rattle.std.proofs.lemmas.Int.{ints}
use Rattle.rational.specs.Rational.{Rational, over}
use Rattle.rational.proofs.Laws.{over-self}
use Rattle.fraction.specs.Fits.{part_max, fits}
use Rattle.fraction.specs.Literal.{digits_on}
use Rattle.fraction.specs.Text.{text_of}
use Rattle.fraction.specs.Canonical.{is_slash, plain_digits_of, nonzero, above_one, quotient_with, numerator_of, denominator_of, quotient_in, quotient_of, signed, fraction_of, fraction_or_fault, read_canonical_of}
use Rattle.fraction.specs.Canonical.{Quotient as Written}
use Rattle.fraction.specs.declared.read.ReadFault.TheVariants.{NotANumber, TooWide}
use Rattle.fraction.proofs.LiteralLemmas.{if_some, not_digit}
use Rattle.fraction.proofs.ReadParts.{mapped, digits_some}
use Rattle.fraction.proofs.FracLemmas.{over-numerator, over-denominator, fits_from}
use Rattle.fraction.proofs.CanonicalLemmas.{digit-not-slash, plain_digits, else_some, and_then_some, quotient_halves, quotient_whole}

-- ---- digits and decimals

digit_back : (c : ℕ) → is_ascii_digit c ≡ true → (48 + (c - 48) ≡ c) × (c - 48 < 10)
digit_back c h = (grind (arith, nat_tests), grind (arith, nat_tests))

not_less : (n v : ℕ) (cs : List ℕ) → digits_on n cs ≡ Some v → n ≤ v
not_less n v [] h = let e : n ≡ v = cc in omega arith
not_less n v (c ∷ cs) h = let more = not_less (10 * n + (c - 48)) v cs (if_some (is_ascii_digit c) _ v h).1 in omega arith

on_decimal : (n v : ℕ) (cs : List ℕ) → 0 < n → digits_on n cs ≡ Some v → v < 10 ^ 64 → decimal v ≡ decimal n ++ cs
on_decimal n v [] some h small = let e : v ≡ n = cc in ap decimal e ∙ sym (append-nil (decimal n))
on_decimal n v (c ∷ cs) some h small =
    let digit = if_some (is_ascii_digit c) _ v h in
    let back = digit_back c digit.0 in
    let m : ℕ = 10 * n + (c - 48) in
    let less = not_less m v cs digit.1 in
    let front : m / 10 ≡ n = omega (arith, back.1) in
    let end : 48 + m % 10 ≡ c = omega (arith, back.0, back.1) in
    on_decimal m v cs (omega arith) digit.1 small
    ∙ ap (λ x. x ++ cs) (decimal_step_wide m (omega arith) (omega arith) ∙ (λ i. decimal (front i) ++ (end i ∷ [])))
    ∙ append_assoc (decimal n) (c ∷ []) cs

some_is : {A : Type 0} {a b : A} → Some a ≡ Some b → a ≡ b
some_is e = cc

pub plain_decimal : (cs : List ℕ) (v : ℕ) → plain_digits_of cs ≡ Some v → v < 10 ^ 64 → cs ≡ decimal v
plain_decimal [] v h small = absurd cc
plain_decimal (c ∷ []) v h small =
    let digit = if_some (is_ascii_digit c) _ v h in
    let back = digit_back c digit.0 in
    let is : 0 + (c - 48) ≡ v = some_is digit.1 in
    ap (λ x. x ∷ []) (omega (arith, back.0)) ∙ sym (decimal_digit v (omega (arith, back.1)))
plain_decimal (c ∷ d ∷ cs) v h small =
    let rest = else_some (c == 48) _ v h in
    let digit = if_some (is_ascii_digit c) _ v rest.1 in
    let back = digit_back c digit.0 in
    let some : 0 < 10 * 0 + (c - 48) = grind (arith, nat_tests) in
    let first : decimal (10 * 0 + (c - 48)) ≡ c ∷ [] = decimal_digit (10 * 0 + (c - 48)) (omega (arith, back.1)) ∙ ap (λ x. x ∷ []) (omega (arith, back.0)) in
    sym (on_decimal (10 * 0 + (c - 48)) v (d ∷ cs) some digit.1 small ∙ ap (λ x. x ++ (d ∷ cs)) first)

digits_push : (n m d : ℕ) (cs : List ℕ) → is_ascii_digit d ≡ true → digits_on n cs ≡ Some m → digits_on n (cs ++ d ∷ []) ≡ Some (10 * m + (d - 48))
digits_push n m d [] is h = let e : n ≡ m = some_is h in rw is (ap (λ k. Some (10 * k + (d - 48))) e)
digits_push n m d (c ∷ cs) is h = let digit = if_some (is_ascii_digit c) _ m h in rw digit.0 (digits_push (10 * n + (c - 48)) m d cs is digit.1)

plain_push : (m d : ℕ) (cs : List ℕ) → 0 < m → is_ascii_digit d ≡ true → plain_digits_of cs ≡ Some m → plain_digits_of (cs ++ d ∷ []) ≡ Some (10 * m + (d - 48))
plain_push m d [] some is h = absurd cc
plain_push m d (c ∷ []) some is h =
    let digit = if_some (is_ascii_digit c) _ m h in
    let value : 0 + (c - 48) ≡ m = some_is digit.1 in
    let lead : (c == 48) ≡ false = grind (arith, nat_tests) in
    rw (lead, digit.0, is) (ap (λ k. Some (10 * k + (d - 48))) value)
plain_push m d (c ∷ e ∷ cs) some is h =
    let rest = else_some (c == 48) _ m h in
    rw rest.0 (digits_push 0 m d (c ∷ e ∷ cs) is rest.1)

pub decimal_plain : (n : ℕ) → n < 10 ^ 64 → plain_digits_of (decimal n) ≡ Some n
decimal_plain n small = decimal_by_steps_wide (λ m ds. plain_digits_of ds ≡ Some m) one more n small
  where
    one : (m : ℕ) → m < 10 → plain_digits_of ((48 + m) ∷ []) ≡ Some m
    one m h =
        let is : is_ascii_digit (48 + m) ≡ true = grind (arith, nat_tests) in
        rw is (ap (λ (k : ℕ). Some k) (omega arith))

    more : (m : ℕ) (ds : List ℕ) → 10 ≤ m → plain_digits_of ds ≡ Some (m / 10) → plain_digits_of (ds ++ ((48 + m % 10) ∷ [])) ≡ Some m
    more m ds h before =
        let is : is_ascii_digit (48 + m % 10) ≡ true = grind (arith, nat_tests) in
        plain_push (m / 10) (48 + m % 10) ds (omega arith) is before ∙ ap (λ (k : ℕ). Some k) (omega arith)

-- ---- numerators and denominators

numerator_by : (minus : Bool) (d c : ℕ) (cs : List ℕ) (w : Written) → (c == 45) ≡ minus
    → (if minus then option_map (quotient_with true d) (option_and_then nonzero (plain_digits_of cs)) else option_map (quotient_with false d) (plain_digits_of (c ∷ cs))) ≡ Some w
    → w.numerator < 10 ^ 64 → (c ∷ cs ≡ signed_decimal (signed w.negative w.numerator)) × (w.denominator ≡ d)
numerator_by true d c cs w e h small =
    let n = mapped (quotient_with true d) (option_and_then nonzero (plain_digits_of cs)) w h in
    let m = and_then_some nonzero (plain_digits_of cs) n.0 n.1 in
    let some = else_some (m.0 == 0) (Some m.0) n.0 m.2 in
    let same : m.0 ≡ n.0 = some_is some.1 in
    let size : w.numerator ≡ m.0 = ap (λ (x : Written). x.numerator) (sym n.2) ∙ sym same in
    let minus : c ≡ 45 = grind (arith, nat_tests) in
    let digits : cs ≡ decimal m.0 = plain_decimal cs m.0 m.1 (omega arith) in
    (ap (λ x. x ∷ cs) minus ∙ ap (λ l. 45 ∷ l) digits ∙ negative m.0 some.0 ∙ ap (λ (x : Written). signed_decimal (signed x.negative x.numerator)) (ap (quotient_with true d) same ∙ n.2), ap (λ (x : Written). x.denominator) (sym n.2))
  where
    negative : (n : ℕ) → (n == 0) ≡ false → 45 ∷ decimal n ≡ signed_decimal (neg_ℤ (pos n))
    negative zero e = cc
    negative (suc n) e = refl
numerator_by false d c cs w e h small =
    let n = mapped (quotient_with false d) (plain_digits_of (c ∷ cs)) w h in
    let size : w.numerator ≡ n.0 = ap (λ (x : Written). x.numerator) (sym n.2) in
    (plain_decimal (c ∷ cs) n.0 n.1 (omega arith) ∙ ap (λ (x : Written). signed_decimal (signed x.negative x.numerator)) n.2, ap (λ (x : Written). x.denominator) (sym n.2))

numerator_text : (d : ℕ) (cs : List ℕ) (w : Written) → numerator_of d cs ≡ Some w → w.numerator < 10 ^ 64 → (cs ≡ signed_decimal (signed w.negative w.numerator)) × (w.denominator ≡ d)
numerator_text d [] w h small = absurd cc
numerator_text d (c ∷ cs) w h small = numerator_by (c == 45) d c cs w refl h small

denominator_text : (cs : List ℕ) (d : ℕ) → denominator_of cs ≡ Some d → d < 10 ^ 64 → (cs ≡ decimal d) × (1 < d)
denominator_text cs d h small =
    let m = and_then_some above_one (plain_digits_of cs) d h in
    let some = else_some (nat_le m.0 1) (Some m.0) d m.2 in
    let same : m.0 ≡ d = some_is some.1 in
    let large : 1 < m.0 = grind (arith, nat_tests) in
    (plain_decimal cs m.0 m.1 (omega arith) ∙ ap decimal same, omega arith)

-- ---- a text that reads as a fraction is its text

fraction_by : (a b l : Bool) (v q : Rational) → (if a && b then if l then Ok v else Err NotANumber else Err TooWide) ≡ Ok q → (a ≡ true) × (b ≡ true) × (l ≡ true) × (v ≡ q)
fraction_by true true true v q h = (refl, refl, refl, cc)
fraction_by true true false v q h = absurd cc
fraction_by true false l v q h = absurd cc
fraction_by false b l v q h = absurd cc

pub size_of : (negative : Bool) (n : ℕ) → unsigned_abs (signed negative n) ≡ n
size_of true n = omega (arith, ints)
size_of false n = refl

some_fraction : (o : Option Written) (q : Rational) → fraction_or_fault o ≡ Ok q → (w : Written) × (o ≡ Some w) × (fraction_of w ≡ Ok q)
some_fraction None q h = absurd cc
some_fraction (Some w) q h = (w, refl, h)

parts_are : (w : Written) (q : Rational) → fraction_of w ≡ Ok q → 0 < w.denominator
    → (w.numerator ≤ part_max) × (w.denominator ≤ part_max) × (q.numerator ≡ signed w.negative w.numerator) × (q.denominator ≡ w.denominator)
parts_are w q h some =
    let is = fraction_by (nat_le w.numerator part_max) (nat_le w.denominator part_max) (gcd w.numerator w.denominator == 1) (over (signed w.negative w.numerator) w.denominator) q h in
    let lowest : IsLowest (signed w.negative w.numerator) w.denominator = record { positive = some; coprime = ap (λ n. gcd n w.denominator) (size_of w.negative w.numerator) ∙ eqb-true _ _ is.2 } in
    (leb-true _ _ is.0, leb-true _ _ is.1, ap (λ (x : Rational). x.numerator) (sym is.3) ∙ over-numerator _ _ lowest, ap (λ (x : Rational). x.denominator) (sym is.3) ∙ over-denominator _ _ lowest)

whole_text : (q : Rational) (z : ℤ) (d : ℕ) → q.numerator ≡ z → q.denominator ≡ d → d ≡ 1 → signed_decimal z ≡ text_of q
whole_text q z d e f one =
    let test : (q.denominator == 1) ≡ true = grind (arith, nat_tests) in
    rw (test, e) refl

halves_text : (q : Rational) (z : ℤ) (d : ℕ) → q.numerator ≡ z → q.denominator ≡ d → 1 < d → signed_decimal z ++ (47 ∷ decimal d) ≡ text_of q
halves_text q z d e f large =
    let test : (q.denominator == 1) ≡ false = grind (arith, nat_tests) in
    rw (test, e, f) refl

within : (n : ℕ) → n ≤ part_max → n < 10 ^ 64
within n h = let room : part_max < 10 ^ 64 = lit< tt in omega arith

slash_is : (c : ℕ) → is_slash c ≡ true → c ≡ 47
slash_is c h = eqb-true _ _ h

round_slash : (text : List ℕ) (i : ℕ) → position is_slash text ≡ Some i → text ≡ take i text ++ (47 ∷ drop (i + 1) text)
round_slash text i is =
    let found = position-Some is_slash text i 0 is in
    sym (take-append-drop i text) ∙ ap (λ l. take i text ++ l) (drop_more text i 0 found.0 ∙ ap (λ c. c ∷ drop (i + 1) text) (slash_is (get_or text i 0) found.1))

fits_of : (w : Written) (q : Rational) → w.numerator ≤ part_max → w.denominator ≤ part_max → q.numerator ≡ signed w.negative w.numerator → q.denominator ≡ w.denominator → IsTrue (fits q)
fits_of w q small few e f = fits_from q (rw (e, size_of w.negative w.numerator) small) (rw f few)

-- the denominator is there before it is known to be small
numerator_den : (d : ℕ) (cs : List ℕ) (w : Written) → numerator_of d cs ≡ Some w → w.denominator ≡ d
numerator_den d [] w h = absurd cc
numerator_den d (c ∷ cs) w h = by (c == 45) (option_and_then nonzero (plain_digits_of cs)) (plain_digits_of (c ∷ cs)) h
  where
    by : (minus : Bool) (o p : Option ℕ) → (if minus then option_map (quotient_with true d) o else option_map (quotient_with false d) p) ≡ Some w → w.denominator ≡ d
    by true o p h = let n = mapped (quotient_with true d) o w h in ap (λ (x : Written). x.denominator) (sym n.2)
    by false o p h = let n = mapped (quotient_with false d) p w h in ap (λ (x : Written). x.denominator) (sym n.2)

above_is : (n d : ℕ) → above_one n ≡ Some d → 1 < d
above_is n d h =
    let some = else_some (nat_le n 1) (Some n) d h in
    let same : n ≡ d = some_is some.1 in
    grind (arith, nat_tests)

sound_by : (text : List ℕ) (q : Rational) (o : Option ℕ) → position is_slash text ≡ o → (w : Written) → quotient_of text ≡ Some w → fraction_of w ≡ Ok q → IsTrue (fits q) × (text ≡ text_of q)
sound_by text q None is w h k =
    let n : numerator_of 1 text ≡ Some w = sym (quotient_whole text is) ∙ h in
    let one = numerator_den 1 text w n in
    let parts = parts_are w q k (omega arith) in
    let written = numerator_text 1 text w n (within _ parts.0) in
    (fits_of w q parts.0 parts.1 parts.2 parts.3, written.0 ∙ whole_text q _ _ parts.2 parts.3 one)
sound_by text q (Some i) is w h k =
    let both : option_and_then (λ d. numerator_of d (take i text)) (denominator_of (drop (i + 1) text)) ≡ Some w = sym (quotient_halves text (drop (i + 1) text) i is refl) ∙ h in
    let d = and_then_some (λ d. numerator_of d (take i text)) (denominator_of (drop (i + 1) text)) w both in
    let m = and_then_some above_one (plain_digits_of (drop (i + 1) text)) d.0 d.1 in
    let large = above_is m.0 d.0 m.2 in
    let same = numerator_den d.0 (take i text) w d.2 in
    let parts = parts_are w q k (omega arith) in
    let front = numerator_text d.0 (take i text) w d.2 (within _ parts.0) in
    let back = denominator_text (drop (i + 1) text) d.0 d.1 (within d.0 (omega arith)) in (
      fits_of w q parts.0 parts.1 parts.2 parts.3,
      round_slash text i is ∙ ap (λ l. l ++ (47 ∷ drop (i + 1) text)) front.0 ∙ ap (λ l. signed_decimal (signed w.negative w.numerator) ++ (47 ∷ l)) back.0
          ∙ halves_text q _ d.0 parts.2 (parts.3 ∙ same) large,
    )

-- ---- the text of a fraction reads as it

numerator_plain : (n d : ℕ) (cs : List ℕ) → plain_digits_of cs ≡ Some n → numerator_of d cs ≡ Some (quotient_with false d n)
numerator_plain n d [] h = absurd cc
numerator_plain n d (c ∷ cs) h =
    let digit = if_some (is_ascii_digit c) _ n (plain_digits (c ∷ cs) n h) in
    let minus : (c == 45) ≡ false = grind (arith, nat_tests) in
    rw (minus, h) refl

numerator_minus : (n d : ℕ) (cs : List ℕ) → plain_digits_of cs ≡ Some (suc n) → numerator_of d (45 ∷ cs) ≡ Some (quotient_with true d (suc n))
numerator_minus n d cs h = let some : (suc n == 0) ≡ false = grind (arith, nat_tests) in rw (h, some) refl

numerator_signed : (z : ℤ) (d : ℕ) → unsigned_abs z < 10 ^ 64 → (negative : Bool) × (numerator_of d (signed_decimal z) ≡ Some (quotient_with negative d (unsigned_abs z))) × (signed negative (unsigned_abs z) ≡ z)
numerator_signed (pos n) d small = (false, numerator_plain n d (decimal n) (decimal_plain n small), refl)
numerator_signed (negsuc n) d small = (true, numerator_minus n d (decimal (suc n)) (decimal_plain (suc n) small), refl)

digits_part : (cs : List ℕ) (n : ℕ) → plain_digits_of cs ≡ Some n → slice_split is_slash cs ≡ cs ∷ []
digits_part cs n h = not_digit is_slash digit-not-slash 0 n cs (digits_some cs n (plain_digits cs n h))

one_part : (z : ℤ) → unsigned_abs z < 10 ^ 64 → slice_split is_slash (signed_decimal z) ≡ signed_decimal z ∷ []
one_part (pos n) small = digits_part (decimal n) n (decimal_plain n small)
one_part (negsuc n) small = ap (onto_first 45) (digits_part (decimal (suc n)) (suc n) (decimal_plain (suc n) small))

split_on : (p : ℕ → Bool) (a : List ℕ) (y : ℕ) (ys : List ℕ) → slice_split p a ≡ a ∷ [] → p y ≡ true → slice_split p (a ++ y ∷ ys) ≡ a ∷ slice_split p ys
split_on p [] y ys one is = rw is refl
split_on p (x ∷ xs) y ys one is = by (p x) (slice_split p xs) (omega (arith, length-slice_split p xs)) (split_on p xs y ys) one
  where
    rest_is : (parts : List (List ℕ)) → 0 < length parts → onto_first x parts ≡ (x ∷ xs) ∷ [] → parts ≡ xs ∷ []
    rest_is [] some e = absurd (omega arith)
    rest_is (part ∷ parts) some e = cc

    by : (b : Bool) (parts : List (List ℕ)) → 0 < length parts → (parts ≡ xs ∷ [] → p y ≡ true → slice_split p (xs ++ y ∷ ys) ≡ xs ∷ slice_split p ys) → cond b ([] ∷ parts) (onto_first x parts) ≡ (x ∷ xs) ∷ []
        → cond b ([] ∷ slice_split p (xs ++ y ∷ ys)) (onto_first x (slice_split p (xs ++ y ∷ ys))) ≡ (x ∷ xs) ∷ slice_split p ys
    by true parts some step e = absurd cc
    by false parts some step e = ap (onto_first x) (step (rest_is parts some e) is)

complete_parts : (q : Rational) (negative : Bool) → signed negative (unsigned_abs q.numerator) ≡ q.numerator → IsTrue (fits q) → fraction_of (quotient_with negative q.denominator (unsigned_abs q.numerator)) ≡ Ok q
complete_parts q negative same small =
    let n : nat_le (unsigned_abs q.numerator) part_max ≡ true = grind (arith, nat_tests) in
    let d : nat_le q.denominator part_max ≡ true = grind (arith, nat_tests) in
    let lowest : (gcd (unsigned_abs q.numerator) q.denominator == 1) ≡ true = eq-eqb _ _ q.lowest.coprime in
    rw (n, d, lowest, same) (ap (λ (x : Rational). Ok x) (over-self q))

fits_parts : (q : Rational) → IsTrue (fits q) → (unsigned_abs q.numerator ≤ part_max) × (q.denominator ≤ part_max)
fits_parts q h = (grind (arith, nat_tests), grind (arith, nat_tests))

complete_by : (q : Rational) (b : Bool) → (q.denominator == 1) ≡ b → IsTrue (fits q) → read_canonical_of (cond b (signed_decimal q.numerator) (signed_decimal q.numerator ++ (47 ∷ decimal q.denominator))) ≡ Ok q
complete_by q true test small =
    let one : q.denominator ≡ 1 = eqb-true _ _ test in
    let size = within _ (fits_parts q small).0 in
    let n = numerator_signed q.numerator 1 size in
    ap (λ pieces. fraction_or_fault (quotient_in pieces)) (one_part q.numerator size) ∙ ap fraction_or_fault (n.1 ∙ ap (λ d. Some (quotient_with n.0 d (unsigned_abs q.numerator))) (sym one)) ∙ complete_parts q n.0 n.2 small
complete_by q false test small =
    let size = within _ (fits_parts q small).0 in
    let n = numerator_signed q.numerator q.denominator size in
    let plain = decimal_plain q.denominator (within _ (fits_parts q small).1) in
    let positive = q.lowest.positive in
    let large : nat_le q.denominator 1 ≡ false = grind (arith, nat_tests) in
    let den : denominator_of (decimal q.denominator) ≡ Some q.denominator = rw (plain, large) refl in
    ap (λ pieces. fraction_or_fault (quotient_in pieces)) (split_on is_slash (signed_decimal q.numerator) 47 (decimal q.denominator) (one_part q.numerator size) refl
    ∙ ap (λ rest. signed_decimal q.numerator ∷ rest) (digits_part (decimal q.denominator) q.denominator plain))
    ∙ ap (λ o. fraction_or_fault (option_and_then (λ d. numerator_of d (signed_decimal q.numerator)) o)) den
    ∙ ap fraction_or_fault n.1 ∙ complete_parts q n.0 n.2 small

pub exact_of : (text : List ℕ) (q : Rational) → (read_canonical_of text ≡ Ok q) ↔ (IsTrue (fits q) × (text ≡ text_of q))
exact_of text q = (
  λ h. let w = some_fraction (quotient_of text) q h in sound_by text q (position is_slash text) refl w.0 w.1 w.2,
  λ h. ap read_canonical_of h.1 ∙ complete_by q (q.denominator == 1) refl h.0,
)
