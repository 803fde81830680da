-- What fields write is read again.
use Rattle.std.proofs.Common.{◌≡◌, ◌∙◌, ℕ, ℤ, pos, suc, ◌+◌, ◌*◌, ◌-◌, ◌%◌, ◌^◌, ◌≤◌, ◌<◌, ◌≢◌, List, [], ◌∷◌, ◌++◌, length, take, drop, Bool, true, false, nat_le, nat_lt, not, ◌&&◌, cond, Some, Result, Ok, Err, IsTrue, refl, sym, ap, arith, if◌then◌else◌, append_assoc}
use Rattle.std.specs.Prelude.{negsuc, ◌==◌, unsigned_abs}
use Rattle.std.specs.Fmt.{decimal, signed_decimal}
use Rattle.std.specs.Str.{IsAscii}
use Rattle.std.specs.List.{AllByRecursion, list_all, slice_split, before_first, after_first, position_or_len}
use Rattle.std.proofs.lemmas.Bool.{leb-true, le-leb, ltb-true, lt-ltb, ne_eqb}
use Rattle.std.proofs.lemmas.List.{append-nil, take_at, drop_at}
use Rattle.std.proofs.lemmas.Fmt.{decimal_by_steps_wide}
use Rattle.std.proofs.lemmas.Str.{is_utf8-from_IsUtf8, IsUtf8-from_ascii}
use Rattle.std.proofs.lemmas.Str.Ascii.{IsAscii-nil, IsAscii-cons}
use Rattle.rational.specs.Rational.{Rational, whole}
use Rattle.fraction.specs.Text.{text_of}
use Rattle.fraction.specs.Fits.{part_max, fits, num_fits, den_fits}
use Rattle.fraction.specs.declared.read.ReadFault.{ReadFault}
use Rattle.milp.specs.Form.{Entry}
use Rattle.rational.specs.Compare.{is_zero}
use Rattle.instance.specs.WellFormed.{are_entries_from}
use Rattle.verdicts.specs.Certificate.{Version, One, Two, Item, Weights}
use Rattle.certificate_lines.specs.declared.fault.FaultKind.{FaultKind}
use Rattle.certificate_lines.specs.declared.fault.FaultKind.TheVariants.{BadLine}
use Rattle.certificate.specs.Written.{count_max, is_negative, rank_of, IsItem, AreItemsFrom, AreWeights, AreLeafWeights, IsForm}
use Rattle.certificate.specs.Text.{items_text, weights_text, leaf_text, form_text, numbers_text}
use Rattle.certificate_lines.specs.Fields.{◌>>=◌, expect, counted, count_of, index_of, numbered, number_of, is_some, some_number_of, whole_of, is_blank, is_colon, fields_of, numbers_of, entry_of, form_of, item_of, is_of, items_of, row_weights_of, weights_of, splits_of, with_splits, leaf_weights_of}
use Rattle.certificate_reader.proofs.FieldsFound.{Texts, blanked}

-- ---- bytes

-- bytes above the blank
abbrev pub is_solid : List ℕ → Bool
is_solid bytes = list_all (λ c. nat_lt 32 c) bytes

-- bytes from the blank on
abbrev pub is_inked : List ℕ → Bool
is_inked bytes = list_all (λ c. nat_lt 31 c) bytes

pub both : (a b : Bool) → a ≡ true → b ≡ true → (a && b) ≡ true
both true b h k = k
both false b h k = h

pub first_of : (a b : Bool) → (a && b) ≡ true → a ≡ true
first_of true b h = refl
first_of false b h = absurd cc

pub second_of : (a b : Bool) → (a && b) ≡ true → b ≡ true
second_of true b h = h
second_of false b h = absurd cc

pub is_solid-append : (a b : List ℕ) → is_solid a ≡ true → is_solid b ≡ true → is_solid (a ++ b) ≡ true
is_solid-append [] b h k = k
is_solid-append (c ∷ cs) b h k = both _ _ (first_of _ _ h) (is_solid-append cs b (second_of _ _ h) k)

pub is_inked-append : (a b : List ℕ) → is_inked a ≡ true → is_inked b ≡ true → is_inked (a ++ b) ≡ true
is_inked-append [] b h k = k
is_inked-append (c ∷ cs) b h k = both _ _ (first_of _ _ h) (is_inked-append cs b (second_of _ _ h) k)

pub inked-from_solid : (a : List ℕ) → is_solid a ≡ true → is_inked a ≡ true
inked-from_solid [] h = refl
inked-from_solid (c ∷ cs) h = let above : 32 < c = ltb-true _ _ (first_of _ _ h) in both _ _ (lt-ltb 31 c (omega arith)) (inked-from_solid cs (second_of _ _ h))

-- the bytes of numbers: a minus, a slash and digits
abbrev pub Plain : ℕ → Type 0
Plain c = (44 < c) × (c < 58)

plain-append : (a b : List ℕ) → AllByRecursion Plain a → AllByRecursion Plain b → AllByRecursion Plain (a ++ b)
plain-append [] b h k = k
plain-append (c ∷ cs) b h k = (h.0, plain-append cs b h.1 k)

decimal_bytes : (n : ℕ) → n < 10 ^ 64 → AllByRecursion Plain (decimal n)
decimal_bytes = decimal_by_steps_wide (λ n ds. AllByRecursion Plain ds) (λ n h. ((omega arith, omega arith), tt)) (λ n ds le all. plain-append ds ((48 + n % 10) ∷ []) all ((omega arith, omega arith), tt))

signed_bytes : (z : ℤ) → num_fits z ≡ true → AllByRecursion Plain (signed_decimal z)
signed_bytes (pos n) h = let small : n ≤ part_max = leb-true _ _ h in decimal_bytes n (omega arith)
signed_bytes (negsuc n) h = let small : suc n ≤ part_max = leb-true _ _ h in ((omega arith, omega arith), decimal_bytes (suc n) (omega arith))

pub text_bytes : (v : Rational) → fits v ≡ true → AllByRecursion Plain (text_of v)
text_bytes v h = by_test (v.denominator == 1)
  where
    by_test : (b : Bool) → AllByRecursion Plain (cond b (signed_decimal v.numerator) (signed_decimal v.numerator ++ (47 ∷ decimal v.denominator)))
    by_test true = signed_bytes v.numerator (first_of _ _ h)
    by_test false =
        let small : v.denominator ≤ part_max = leb-true _ _ (second_of (num_fits v.numerator) (den_fits v.denominator) h) in
        plain-append (signed_decimal v.numerator) (47 ∷ decimal v.denominator) (signed_bytes v.numerator (first_of _ _ h)) ((omega arith, omega arith), decimal_bytes v.denominator (omega arith))

plain-solid : (a : List ℕ) → AllByRecursion Plain a → is_solid a ≡ true
plain-solid [] h = refl
plain-solid (c ∷ cs) h = let above : 44 < c = h.0.0 in both _ _ (lt-ltb 32 c (omega arith)) (plain-solid cs h.1)

plain-ascii : (a : List ℕ) → AllByRecursion Plain a → IsAscii a
plain-ascii [] h = IsAscii-nil
plain-ascii (c ∷ cs) h = let below : c < 58 = h.0.1 in IsAscii-cons c cs (omega arith) (plain-ascii cs h.1)

pub decimal_solid : (n : ℕ) → n ≤ count_max → is_solid (decimal n) ≡ true
decimal_solid n h = plain-solid (decimal n) (decimal_bytes n (omega arith))

pub text_solid : (v : Rational) → fits v ≡ true → is_solid (text_of v) ≡ true
text_solid v h = plain-solid (text_of v) (text_bytes v h)

-- ---- splitting

pub split_word : (p : ℕ → Bool) (w rest : List ℕ) (s : ℕ) → p s ≡ true → list_all (λ c. not (p c)) w ≡ true → slice_split p (w ++ (s ∷ rest)) ≡ w ∷ slice_split p rest
split_word p [] rest s ends clear = rw ends refl
split_word p (c ∷ cs) rest s ends clear =
    let here : p c ≡ false = not_not (p c) (first_of (not (p c)) (list_all (λ c. not (p c)) cs) clear) in
    rw (here, split_word p cs rest s ends (second_of (not (p c)) (list_all (λ c. not (p c)) cs) clear)) refl
  where
    not_not : (b : Bool) → not b ≡ true → b ≡ false
    not_not true h = absurd cc
    not_not false h = refl

pub split_last : (p : ℕ → Bool) (w : List ℕ) → list_all (λ c. not (p c)) w ≡ true → slice_split p w ≡ w ∷ []
split_last p [] clear = refl
split_last p (c ∷ cs) clear =
    let here : p c ≡ false = not_not (p c) (first_of (not (p c)) (list_all (λ c. not (p c)) cs) clear) in
    rw (here, split_last p cs (second_of (not (p c)) (list_all (λ c. not (p c)) cs) clear)) refl
  where
    not_not : (b : Bool) → not b ≡ true → b ≡ false
    not_not true h = absurd cc
    not_not false h = refl

no_blank : (w : List ℕ) → is_solid w ≡ true → list_all (λ c. not (is_blank c)) w ≡ true
no_blank [] h = refl
no_blank (c ∷ cs) h =
    let above : 32 < c = ltb-true _ _ (first_of _ _ h) in
    let no : is_blank c ≡ false = ne_eqb c 32 (λ e. absurd (omega arith)) in
    both _ _ (ap not no) (no_blank cs (second_of _ _ h))

abbrev pub are_solid : List (List ℕ) → Bool
are_solid fields = list_all is_solid fields

pub are_solid-append : (a b : List (List ℕ)) → are_solid a ≡ true → are_solid b ≡ true → are_solid (a ++ b) ≡ true
are_solid-append [] b h k = k
are_solid-append (c ∷ cs) b h k = both _ _ (first_of _ _ h) (are_solid-append cs b (second_of _ _ h) k)

pub blanked-append : (a b : List (List ℕ)) → blanked (a ++ b) ≡ blanked a ++ blanked b
blanked-append [] b = refl
blanked-append (f ∷ fs) b = ap (λ (r : List ℕ). 32 ∷ (f ++ r)) (blanked-append fs b) ∙ ap (λ (r : List ℕ). 32 ∷ r) (sym (append_assoc f (blanked fs) (blanked b)))

pub fields_again : (w : List ℕ) (fs : List (List ℕ)) → is_solid w ≡ true → are_solid fs ≡ true → fields_of (w ++ blanked fs) ≡ w ∷ fs
fields_again w [] h k = ap fields_of (append-nil w) ∙ split_last is_blank w (no_blank w h)
fields_again w (f ∷ fs) h k = split_word is_blank w (f ++ blanked fs) 32 refl (no_blank w h) ∙ ap (λ (rest : List (List ℕ)). w ∷ rest) (fields_again f fs (first_of _ _ k) (second_of _ _ k))

pub blanked_inked : (fs : List (List ℕ)) → are_solid fs ≡ true → is_inked (blanked fs) ≡ true
blanked_inked [] h = refl
blanked_inked (f ∷ fs) h = both _ _ refl (is_inked-append f (blanked fs) (inked-from_solid f (first_of _ _ h)) (blanked_inked fs (second_of _ _ h)))

pub line_inked : (w : List ℕ) (fs : List (List ℕ)) → is_solid w ≡ true → are_solid fs ≡ true → is_inked (w ++ blanked fs) ≡ true
line_inked w fs h k = is_inked-append w (blanked fs) (inked-from_solid w h) (blanked_inked fs k)

-- ---- numbers

number_if : (b : Bool) (r : Result Rational ReadFault) (v : Rational) → b ≡ true → r ≡ Ok v → (if b then numbered r else Err BadLine) ≡ Ok v
number_if true r v h k = ap numbered k
number_if false r v h k = absurd cc

pub number_again : Texts → (v : Rational) → fits v ≡ true → number_of (text_of v) ≡ Ok v
number_again law v h = number_if _ _ v (is_utf8-from_IsUtf8 (text_of v) (IsUtf8-from_ascii (text_of v) (plain-ascii (text_of v) (text_bytes v h)))) ((law.fractions (text_of v) v).1 (h, refl))

counted_again : (n : ℕ) → n ≤ count_max → counted (Some n) ≡ Ok n
counted_again n h = let test : nat_le n count_max ≡ true = le-leb _ _ h in rw test refl

pub count_again : Texts → (n : ℕ) → n ≤ count_max → count_of (decimal n) ≡ Ok n
count_again law n h = ap counted ((law.digits (decimal n) n (omega (arith, h))).1 refl) ∙ counted_again n h

pub index_again : Texts → (i : ℕ) → i < count_max → index_of (decimal (i + 1)) ≡ Ok i
index_again law i h =
    let some : nat_le 1 (i + 1) ≡ true = le-leb 1 (i + 1) (omega arith) in
    let back : i + 1 - 1 ≡ i = omega arith in
    ap (λ (r : Result ℕ FaultKind). r >>= λ n. expect (nat_le 1 n) (n - 1)) (count_again law (i + 1) (omega (arith, h))) ∙ rw (some, back) refl

whole_fits : (z : ℤ) → num_fits z ≡ true → fits (whole z) ≡ true
whole_fits z h = both (num_fits z) (den_fits 1) h refl

pub whole_solid : (z : ℤ) → num_fits z ≡ true → is_solid (text_of (whole z)) ≡ true
whole_solid z h = text_solid (whole z) (whole_fits z h)

pub whole_again : Texts → (z : ℤ) → num_fits z ≡ true → whole_of (text_of (whole z)) ≡ Ok z
whole_again law z h = ap (λ (r : Result Rational FaultKind). r >>= λ v. expect (v.denominator == 1) v.numerator) (number_again law (whole z) (whole_fits z h))

some_again : Texts → (v : Rational) → fits v ≡ true → is_zero v ≡ false → some_number_of (text_of v) ≡ Ok v
some_again law v h some = ap (λ (r : Result Rational FaultKind). r >>= λ v. expect (is_some v) v) (number_again law v h) ∙ rw some refl

-- ---- points

abbrev pub numbers_fields : List Rational → List (List ℕ)
numbers_fields [] = []
numbers_fields (v ∷ vs) = text_of v ∷ numbers_fields vs

pub numbers_blanked : (vs : List Rational) → blanked (numbers_fields vs) ≡ numbers_text vs
numbers_blanked [] = refl
numbers_blanked (v ∷ vs) = ap (λ (r : List ℕ). 32 ∷ (text_of v ++ r)) (numbers_blanked vs)

pub numbers_solid : (vs : List Rational) → AllByRecursion (λ v. IsTrue (fits v)) vs → are_solid (numbers_fields vs) ≡ true
numbers_solid [] h = refl
numbers_solid (v ∷ vs) h = both _ _ (text_solid v h.0) (numbers_solid vs h.1)

pub numbers_again : Texts → (vs : List Rational) → AllByRecursion (λ v. IsTrue (fits v)) vs → numbers_of (length vs) (numbers_fields vs) ≡ Ok vs
unfolding numbers_of
numbers_again law [] h = refl
numbers_again law (v ∷ vs) h = rw (number_again law v h.0, numbers_again law vs h.1) refl

-- ---- a number behind an index and a colon

no_colon : (a : List ℕ) → AllByRecursion Plain a → (b : List ℕ) → position_or_len is_colon (a ++ (58 ∷ b)) ≡ length a
no_colon [] h b = refl
no_colon (c ∷ cs) h b =
    let below : c < 58 = h.0.1 in
    let no : is_colon c ≡ false = ne_eqb c 58 (λ e. absurd (omega arith)) in
    let rest = no_colon cs h.1 b in
    rw no (rw rest (omega arith))

before_colon : (a b : List ℕ) → AllByRecursion Plain a → before_first is_colon (a ++ (58 ∷ b)) ≡ a
before_colon a b h = ap (λ (n : ℕ). take n (a ++ (58 ∷ b))) (no_colon a h b) ∙ take_at a (58 ∷ b) (length a) refl

after_colon : (a b : List ℕ) → AllByRecursion Plain a → after_first is_colon (a ++ (58 ∷ b)) ≡ b
after_colon a b h =
    let place : position_or_len is_colon (a ++ (58 ∷ b)) + 1 ≡ length (a ++ (58 ∷ [])) = omega (arith, no_colon a h b, length_snoc a 58) in
    ap (λ (n : ℕ). drop n (a ++ (58 ∷ b))) place ∙ ap (drop (length (a ++ (58 ∷ [])))) (sym (append_assoc a (58 ∷ []) b)) ∙ drop_at (a ++ (58 ∷ [])) b (length (a ++ (58 ∷ []))) refl
  where
    length_snoc : (a : List ℕ) (c : ℕ) → length (a ++ (c ∷ [])) ≡ length a + 1
    length_snoc [] c = refl
    length_snoc (d ∷ ds) c = let rest = length_snoc ds c in omega (arith, rest)

abbrev pub pair_field : ℕ → Rational → List ℕ
pair_field i v = decimal (i + 1) ++ (58 ∷ text_of v)

pair_solid : (i : ℕ) (v : Rational) → i < count_max → fits v ≡ true → is_solid (pair_field i v) ≡ true
pair_solid i v h k = is_solid-append (decimal (i + 1)) (58 ∷ text_of v) (decimal_solid (i + 1) (omega (arith, h))) (both _ _ refl (text_solid v k))

pair_before : (i : ℕ) (v : Rational) → i < count_max → before_first is_colon (pair_field i v) ≡ decimal (i + 1)
pair_before i v h = before_colon (decimal (i + 1)) (text_of v) (decimal_bytes (i + 1) (omega (arith, h)))

pair_after : (i : ℕ) (v : Rational) → i < count_max → after_first is_colon (pair_field i v) ≡ text_of v
pair_after i v h = after_colon (decimal (i + 1)) (text_of v) (decimal_bytes (i + 1) (omega (arith, h)))

-- ---- forms

abbrev pub form_fields : List Entry → List (List ℕ)
form_fields [] = []
form_fields (e ∷ es) = pair_field e.column e.coefficient ∷ form_fields es

pub form_blanked : (es : List Entry) → blanked (form_fields es) ≡ form_text es
form_blanked [] = refl
form_blanked (e ∷ es) = ap (λ (r : List ℕ). 32 ∷ (pair_field e.column e.coefficient ++ r)) (form_blanked es)

entry_again : Texts → (least : ℕ) (e : Entry) → least ≤ e.column → e.column < count_max → is_zero e.coefficient ≡ false → fits e.coefficient ≡ true → entry_of least (pair_field e.column e.coefficient) ≡ Ok e
unfolding entry_of
entry_again law least e order small some h =
    let test : nat_le least e.column ≡ true = le-leb _ _ order in
    rw (pair_before e.column e.coefficient small, pair_after e.column e.coefficient small, index_again law e.column small, test, some_again law e.coefficient h some) refl

not_zero : (b : Bool) → not b ≡ true → b ≡ false
not_zero true h = absurd cc
not_zero false h = refl

record EntryParts (least : ℕ) (e : Entry) (es : List Entry) : Type 0 where
  order : least ≤ e.column
  small : e.column < count_max
  some : is_zero e.coefficient ≡ false
  rest : are_entries_from (e.column + 1) count_max es ≡ true

entry_parts : (least : ℕ) (e : Entry) (es : List Entry) → are_entries_from least count_max (e ∷ es) ≡ true → EntryParts least e es
entry_parts least e es h =
    let order : Bool = nat_le least e.column in
    let small : Bool = nat_lt e.column count_max in
    let some : Bool = not (is_zero e.coefficient) in
    let rest : Bool = are_entries_from (e.column + 1) count_max es in
    let b : (small && (some && rest)) ≡ true = second_of order (small && (some && rest)) h in
    let c : (some && rest) ≡ true = second_of small (some && rest) b in
    record { order = leb-true _ _ (first_of order (small && (some && rest)) h); small = ltb-true _ _ (first_of small (some && rest) b); some = not_zero (is_zero e.coefficient) (first_of some rest c); rest = second_of some rest c }

pub form_solid_from : (least : ℕ) (es : List Entry) → are_entries_from least count_max es ≡ true → AllByRecursion (λ e. IsTrue (fits e.coefficient)) es → are_solid (form_fields es) ≡ true
form_solid_from least [] h k = refl
form_solid_from least (e ∷ es) h k =
    let p = entry_parts least e es h in
    both _ _ (pair_solid e.column e.coefficient p.small k.0) (form_solid_from (e.column + 1) es p.rest k.1)

form_again_from : Texts → (least : ℕ) (es : List Entry) → are_entries_from least count_max es ≡ true → AllByRecursion (λ e. IsTrue (fits e.coefficient)) es → form_of least (form_fields es) ≡ Ok es
unfolding form_of
form_again_from law least [] h k = refl
form_again_from law least (e ∷ es) h k =
    let p = entry_parts least e es h in
    let first = entry_again law least e p.order p.small p.some k.0 in
    rw (first, form_again_from law (e.column + 1) es p.rest k.1) refl

pub form_solid : (es : List Entry) → IsForm es → are_solid (form_fields es) ≡ true
form_solid es h = form_solid_from 0 es h.entries h.numbers

pub form_again : Texts → (es : List Entry) → IsForm es → form_of 0 (form_fields es) ≡ Ok es
form_again law es h = form_again_from law 0 es h.entries h.numbers

-- ---- weights

abbrev pub items_fields : ℕ → List Item → List (List ℕ)
items_fields kind [] = []
items_fields kind (i ∷ is) = (kind ∷ pair_field i.index i.weight) ∷ items_fields kind is

pub items_blanked : (kind : ℕ) (is : List Item) → blanked (items_fields kind is) ≡ items_text (kind ∷ []) is
items_blanked kind [] = refl
items_blanked kind (i ∷ is) = ap (λ (r : List ℕ). 32 ∷ (kind ∷ (pair_field i.index i.weight ++ r))) (items_blanked kind is)

items_solid : (kind least : ℕ) (is : List Item) → nat_lt 32 kind ≡ true → AreItemsFrom least is → are_solid (items_fields kind is) ≡ true
items_solid kind least [] above h = refl
items_solid kind least (i ∷ is) above h = both _ _ (both _ _ above (pair_solid i.index i.weight h.1.index h.1.number)) (items_solid kind (rank_of i + 1) is above h.2)

nonzero_is : (v : Rational) → v.numerator ≢ pos 0 → is_zero v ≡ false
nonzero_is v h = ne_eqb (unsigned_abs v.numerator) 0 (λ e. h (abs_zero v.numerator e))
  where
    abs_zero : (z : ℤ) → unsigned_abs z ≡ 0 → z ≡ pos 0
    abs_zero (pos n) e = ap (λ (k : ℕ). pos k) e
    abs_zero (negsuc n) e = absurd (omega arith)

place-le : (i : Item) → rank_of i ≤ 2 * i.index + 1
place-le i = by_test (is_negative i.weight)
  where
    by_test : (b : Bool) → 2 * i.index + (if b then 1 else 0) ≤ 2 * i.index + 1
    by_test true = omega arith
    by_test false = omega arith

item_again : Texts → (least : ℕ) (i : Item) → least ≤ rank_of i → IsItem i → item_of least (pair_field i.index i.weight) ≡ Ok i
unfolding item_of
item_again law least i order h =
    let room : nat_le least (2 * i.index + 1) ≡ true = le-leb _ _ (omega (arith, order, place-le i)) in
    let test : nat_le least (rank_of i) ≡ true = le-leb _ _ order in
    rw (pair_before i.index i.weight h.index, pair_after i.index i.weight h.index, index_again law i.index h.index, room, some_again law i.weight h.number (nonzero_is i.weight h.some), test) refl

-- the fields don't begin with an item of this kind
abbrev NotOf : ℕ → List (List ℕ) → Type 0
NotOf kind [] = Unit {0}
NotOf kind (f ∷ fs) = is_of kind f ≡ false

items_again : Texts → (kind least : ℕ) (is : List Item) (rest : List (List ℕ)) → AreItemsFrom least is → NotOf kind rest → items_of kind least (items_fields kind is ++ rest) ≡ Ok (is, rest)
unfolding items_of
items_again law kind least [] [] h k = refl
items_again law kind least [] (f ∷ fs) h k = rw k refl
items_again law kind least (i ∷ is) rest h k =
    let same : (kind == kind) ≡ true = eq_test kind in
    let first = item_again law least i h.0 h.1 in
    rw (same, first, items_again law kind (rank_of i + 1) is rest h.2 k) refl
  where
    eq_test : (n : ℕ) → (n == n) ≡ true
    eq_test n = grind (arith)

abbrev pub weights_fields : Weights → List (List ℕ)
weights_fields w = items_fields 114 w.rows ++ (items_fields 99 w.columns ++ items_fields 100 w.derived)

-- the fields don't begin with the weight of a row, a column or a derived row
record NotRowWeights (fields : List (List ℕ)) : Type 0 where
  rows : NotOf 114 fields
  columns : NotOf 99 fields
  derived : NotOf 100 fields

no_fields : NotRowWeights []
no_fields = record { rows = tt; columns = tt; derived = tt }

not_columns : (ds : List Item) (rest : List (List ℕ)) → NotOf 99 rest → NotOf 99 (items_fields 100 ds ++ rest)
not_columns [] rest h = h
not_columns (d ∷ ds) rest h = refl

not_rows : (cs ds : List Item) (rest : List (List ℕ)) → NotOf 114 rest → NotOf 114 (items_fields 99 cs ++ (items_fields 100 ds ++ rest))
not_rows [] [] rest h = h
not_rows [] (d ∷ ds) rest h = refl
not_rows (c ∷ cs) ds rest h = refl

row_weights_again : Texts → (w : Weights) (rest : List (List ℕ)) → AreItemsFrom 0 w.rows → AreItemsFrom 0 w.columns → AreItemsFrom 0 w.derived → NotRowWeights rest → row_weights_of (weights_fields w ++ rest) ≡ Ok (with_splits w [], rest)
unfolding row_weights_of
row_weights_again law w rest r c d h =
    let last : List (List ℕ) = items_fields 100 w.derived ++ rest in
    let apart : weights_fields w ++ rest ≡ items_fields 114 w.rows ++ (items_fields 99 w.columns ++ last) = append_assoc (items_fields 114 w.rows) (items_fields 99 w.columns ++ items_fields 100 w.derived) rest ∙ ap (λ (fs : List (List ℕ)). items_fields 114 w.rows ++ fs) (append_assoc (items_fields 99 w.columns) (items_fields 100 w.derived) rest) in
    let rows = items_again law 114 0 w.rows (items_fields 99 w.columns ++ last) r (not_rows w.columns w.derived rest h.rows) in
    let columns = items_again law 99 0 w.columns last c (not_columns w.derived rest h.columns) in
    let derived = items_again law 100 0 w.derived rest d h.derived in
    rw (apart, rows, columns, derived) refl

pub weights_again : Texts → (w : Weights) → AreWeights w → weights_of (weights_fields w) ≡ Ok w
unfolding weights_of
weights_again law w h =
    let read : row_weights_of (weights_fields w) ≡ Ok (with_splits w [], []) = ap row_weights_of (sym (append-nil (weights_fields w))) ∙ row_weights_again law w [] h.rows h.columns h.derived no_fields in
    rw read (ap (λ (splits : List Item). Ok (with_splits w splits)) (sym h.splits))

abbrev pub leaf_fields : Weights → List (List ℕ)
leaf_fields w = weights_fields w ++ items_fields 115 w.splits

splits_alone : (is : List Item) → NotRowWeights (items_fields 115 is)
splits_alone [] = no_fields
splits_alone (i ∷ is) = record { rows = refl; columns = refl; derived = refl }

-- version 1 has no weights of splits
abbrev pub HasSplits : Version → List Item → Type 0
HasSplits One splits = splits ≡ []
HasSplits Two splits = Unit {0}

splits_again : Texts → (v : Version) (is : List Item) → AreItemsFrom 0 is → HasSplits v is → splits_of v (items_fields 115 is) ≡ Ok (is, [])
unfolding splits_of
splits_again law One [] h k = refl
splits_again law One (i ∷ is) h k = absurd cc
splits_again law Two is h k = ap (items_of 115 0) (sym (append-nil (items_fields 115 is))) ∙ items_again law 115 0 is [] h tt

pub leaf_weights_again : Texts → (v : Version) (w : Weights) → AreLeafWeights w → HasSplits v w.splits → leaf_weights_of v (leaf_fields w) ≡ Ok w
unfolding leaf_weights_of
leaf_weights_again law v w h k = rw (row_weights_again law w (items_fields 115 w.splits) h.rows h.columns h.derived (splits_alone w.splits), splits_again law v w.splits h.splits k) refl

weights_are_solid : (w : Weights) → AreItemsFrom 0 w.rows → AreItemsFrom 0 w.columns → AreItemsFrom 0 w.derived → are_solid (weights_fields w) ≡ true
weights_are_solid w r c d = are_solid-append (items_fields 114 w.rows) (items_fields 99 w.columns ++ items_fields 100 w.derived) (items_solid 114 0 w.rows refl r) (are_solid-append (items_fields 99 w.columns) (items_fields 100 w.derived) (items_solid 99 0 w.columns refl c) (items_solid 100 0 w.derived refl d))

pub weights_solid : (w : Weights) → AreWeights w → are_solid (weights_fields w) ≡ true
weights_solid w h = weights_are_solid w h.rows h.columns h.derived

pub leaf_solid : (w : Weights) → AreLeafWeights w → are_solid (leaf_fields w) ≡ true
leaf_solid w h = are_solid-append (weights_fields w) (items_fields 115 w.splits) (weights_are_solid w h.rows h.columns h.derived) (items_solid 115 0 w.splits refl h.splits)

pub weights_blanked : (w : Weights) → blanked (weights_fields w) ≡ weights_text w
weights_blanked w =
    blanked-append (items_fields 114 w.rows) (items_fields 99 w.columns ++ items_fields 100 w.derived)
    ∙ ap (λ (r : List ℕ). r ++ blanked (items_fields 99 w.columns ++ items_fields 100 w.derived)) (items_blanked 114 w.rows)
    ∙ ap (λ (r : List ℕ). items_text (114 ∷ []) w.rows ++ r) (blanked-append (items_fields 99 w.columns) (items_fields 100 w.derived)
    ∙ ap (λ (r : List ℕ). r ++ blanked (items_fields 100 w.derived)) (items_blanked 99 w.columns)
    ∙ ap (λ (r : List ℕ). items_text (99 ∷ []) w.columns ++ r) (items_blanked 100 w.derived))

pub leaf_blanked : (w : Weights) → blanked (leaf_fields w) ≡ leaf_text w
leaf_blanked w =
    blanked-append (weights_fields w) (items_fields 115 w.splits)
    ∙ ap (λ (r : List ℕ). r ++ blanked (items_fields 115 w.splits)) (weights_blanked w)
    ∙ ap (λ (r : List ℕ). weights_text w ++ r) (items_blanked 115 w.splits)
