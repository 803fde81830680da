-- The parts of a canonical text round its slash, and numbers up to a limit.
use Rattle.std.proofs.Common.{◌≡◌, ◌∙◌, ℕ, ◌+◌, refl, sym, ap, arith, Bool, true, false, List, [], ◌∷◌, length, take, drop, nat_le}
use Rattle.std.proofs.lemmas.Bool.Decides.{nat_tests}
use Rattle.std.proofs.lemmas.List.Splits.{length-slice_split}
use Rattle.std.specs.Prelude.{◌==◌, Some, None, if◌then◌else◌}
use Rattle.std.specs.declared.option.Option.{Option}
use Rattle.std.specs.Option.{option_map, option_and_then}
use Rattle.std.specs.List.{slice_split, position, count_by}
use Rattle.std.specs.Char.{is_ascii_digit}
use Rattle.fraction.specs.Fits.{part_max}
use Rattle.fraction.specs.Literal.{digits_on, digits_of}
use Rattle.fraction.specs.Reading.{significant_end, clipped}
use Rattle.fraction.specs.Canonical.{is_slash, plain_digits_of, nonzero, above_one, quotient_with, numerator_of, denominator_of, quotient_in, quotient_of, fraction_of, fraction_or_fault}
use Rattle.fraction.specs.Canonical.{Quotient as Written}
use Rattle.fraction.specs.CanonicalReading.{kept_quotient}
use Rattle.fraction.specs.declared.canonical.Quotient.{Quotient}
use Rattle.fraction.proofs.ReadParts.{one_piece, first_piece, none_unless, no_digits, digits_some}

pub digit-not-slash : (c : ℕ) → is_ascii_digit c ≡ true → is_slash c ≡ false
digit-not-slash c h = grind (arith, nat_tests)

pub else_some : {A : Type 0} (b : Bool) (x : Option A) (v : A) → (if b then None else x) ≡ Some v → (b ≡ false) × (x ≡ Some v)
else_some true x v h = cc
else_some false x v h = (refl, h)

pub plain_digits : (cs : List ℕ) (v : ℕ) → plain_digits_of cs ≡ Some v → digits_of cs ≡ Some v
plain_digits [] v h = absurd cc
plain_digits (c ∷ []) v h = h
plain_digits (c ∷ d ∷ cs) v h = (else_some (c == 48) _ v h).1

pub and_then_some : {A B : Type 0} (f : A → Option B) (o : Option A) (b : B) → option_and_then f o ≡ Some b → (a : A) × (o ≡ Some a) × (f a ≡ Some b)
and_then_some f None b h = absurd cc
and_then_some f (Some a) b h = (a, refl, h)

no_denominator : (rest : List ℕ) (j : ℕ) → position is_slash rest ≡ Some j → denominator_of rest ≡ None
no_denominator rest j is = none_unless (denominator_of rest) (λ v h.
    let n = and_then_some above_one (plain_digits_of rest) v h in
    none (digits_on 0 rest) n.0 (digits_some rest n.0 (plain_digits rest n.0 n.1)) (no_digits is_slash digit-not-slash 0 rest j is))
  where
    none : (o : Option ℕ) (v : ℕ) → o ≡ Some v → o ≡ None → ⊥
    none o v h k = let e : Some v ≡ None = sym h ∙ k in cc

rest_slashes : (front rest : List ℕ) (o : Option ℕ) → position is_slash rest ≡ o → quotient_in (front ∷ slice_split is_slash rest) ≡ option_and_then (λ d. numerator_of d front) (denominator_of rest)
rest_slashes front rest None e = ap (λ pieces. quotient_in (front ∷ pieces)) (one_piece is_slash rest e)
rest_slashes front rest (Some j) e =
    ap (λ pieces. quotient_in (front ∷ pieces)) (first_piece is_slash rest j e) ∙ many (slice_split is_slash (drop (j + 1) rest)) (length-slice_split is_slash (drop (j + 1) rest))
    ∙ sym (ap (option_and_then (λ d. numerator_of d front)) (no_denominator rest j e))
  where
    many : (pieces : List (List ℕ)) → length pieces ≡ count_by is_slash (drop (j + 1) rest) + 1 → quotient_in (front ∷ take j rest ∷ pieces) ≡ None
    many [] l = absurd (omega arith)
    many (piece ∷ pieces) l = refl

pub quotient_halves : (text rest : List ℕ) (i : ℕ) → position is_slash text ≡ Some i → rest ≡ drop (i + 1) text → quotient_of text ≡ option_and_then (λ d. numerator_of d (take i text)) (denominator_of rest)
quotient_halves text rest i e r = ap quotient_in (first_piece is_slash text i e) ∙ rest_slashes (take i text) (drop (i + 1) text) _ refl ∙ ap (λ ps. option_and_then (λ d. numerator_of d (take i text)) (denominator_of ps)) (sym r)

pub quotient_whole : (text : List ℕ) → position is_slash text ≡ None → quotient_of text ≡ numerator_of 1 text
quotient_whole text e = ap quotient_in (one_piece is_slash text e)

-- ---- numbers up to the limit

if_map : {A B : Type 0} (f : A → B) (b : Bool) (x y : Option A) → option_map f (if b then x else y) ≡ (if b then option_map f x else option_map f y)
if_map f true x y = refl
if_map f false x y = refl

if_same : {A : Type 0} (b : Bool) (x y z w : A) → x ≡ z → y ≡ w → (if b then x else y) ≡ (if b then z else w)
if_same true x y z w e f = e
if_same false x y z w e f = f

kept_same : (negative : Bool) (d n : ℕ) → kept_quotient (quotient_with negative (clipped significant_end d) n) ≡ kept_quotient (quotient_with negative d n)
kept_same negative d n =
    let again : clipped significant_end (clipped significant_end d) ≡ clipped significant_end d = omega arith in
    ap (λ x. record { negative = negative; numerator = clipped significant_end n; denominator = x }) again

map_same : {A B C : Type 0} (f : B → C) (g h : A → B) (o : Option A) → ((a : A) → f (g a) ≡ f (h a)) → option_map f (option_map g o) ≡ option_map f (option_map h o)
map_same f g h None e = refl
map_same f g h (Some a) e = ap (λ x. Some x) (e a)

pub numerator_kept : (d : ℕ) (cs : List ℕ) → option_map kept_quotient (numerator_of (clipped significant_end d) cs) ≡ option_map kept_quotient (numerator_of d cs)
numerator_kept d [] = refl
numerator_kept d (c ∷ cs) =
    let e = clipped significant_end d in
    if_map kept_quotient (c == 45) _ _
    ∙ if_same (c == 45) _ _ _ _ (map_same kept_quotient (quotient_with true e) (quotient_with true d) (option_and_then nonzero (plain_digits_of cs)) (kept_same true d))
    (map_same kept_quotient (quotient_with false e) (quotient_with false d) (plain_digits_of (c ∷ cs)) (kept_same false d))
    ∙ sym (if_map kept_quotient (c == 45) _ _)

some_clipped : (o : Option ℕ) (d : ℕ) → option_map (clipped significant_end) o ≡ Some d → (n : ℕ) × (o ≡ Some n) × (d ≡ clipped significant_end n)
some_clipped None d h = absurd cc
some_clipped (Some n) d h = (n, refl, cc)

none_clipped : (o : Option ℕ) → option_map (clipped significant_end) o ≡ None → o ≡ None
none_clipped None h = refl
none_clipped (Some n) h = cc

pub denominator_none : (front rest : List ℕ) → option_map (clipped significant_end) (denominator_of rest) ≡ None → option_and_then (λ d. numerator_of d front) (denominator_of rest) ≡ None
denominator_none front rest h = ap (option_and_then (λ d. numerator_of d front)) (none_clipped (denominator_of rest) h)

pub denominator_some : (front rest : List ℕ) (d : ℕ) → option_map (clipped significant_end) (denominator_of rest) ≡ Some d
    → option_map kept_quotient (numerator_of d front) ≡ option_map kept_quotient (option_and_then (λ d. numerator_of d front) (denominator_of rest))
denominator_some front rest d h =
    let n = some_clipped (denominator_of rest) d h in
    ap (λ x. option_map kept_quotient (numerator_of x front)) n.2 ∙ numerator_kept n.0 front ∙ sym (ap (λ o. option_map kept_quotient (option_and_then (λ d. numerator_of d front) o)) n.1)

-- the same fraction, and the same fault
cases_kept : (negative : Bool) (n d : ℕ) (a b : Bool) → nat_le n part_max ≡ a → nat_le d part_max ≡ b
    → fraction_of (record { negative = negative; numerator = clipped significant_end n; denominator = clipped significant_end d }) ≡ fraction_of (record { negative = negative; numerator = n; denominator = d })
cases_kept negative n d true true e f =
    let same : clipped significant_end n ≡ n = grind (arith, nat_tests) in
    let also : clipped significant_end d ≡ d = grind (arith, nat_tests) in
    rw (same, also) refl
cases_kept negative n d true false e f =
    let past : nat_le (clipped significant_end d) part_max ≡ false = grind (arith, nat_tests) in
    let same : clipped significant_end n ≡ n = grind (arith, nat_tests) in
    rw (same, past, e, f) refl
cases_kept negative n d false b e f =
    let past : nat_le (clipped significant_end n) part_max ≡ false = grind (arith, nat_tests) in
    rw (past, e) refl

pub fraction_kept : (o : Option Written) (k : Quotient) → option_map kept_quotient o ≡ Some k → fraction_of (record { negative = k.negative; numerator = k.numerator; denominator = k.denominator }) ≡ fraction_or_fault o
fraction_kept None k h = absurd cc
fraction_kept (Some q) k h =
    let same : kept_quotient q ≡ k = cc in
    ap (λ (x : Quotient). fraction_of (record { negative = x.negative; numerator = x.numerator; denominator = x.denominator })) (sym same)
    ∙ cases_kept q.negative q.numerator q.denominator (nat_le q.numerator part_max) (nat_le q.denominator part_max) refl refl
