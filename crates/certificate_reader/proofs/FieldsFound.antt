-- What the fields of a line are read as is what they write.
use Rattle.std.proofs.Common.{◌≡◌, ◌∙◌, ℕ, ℤ, pos, zero, suc, ◌+◌, ◌*◌, ◌^◌, ◌≤◌, ◌<◌, ◌≢◌, List, [], ◌∷◌, ◌++◌, length, get_or, drop, Bool, true, false, nat_le, ◌&&◌, Some, Result, Ok, Err, IsTrue, refl, sym, ap, subst, arith, inl, inr, append_assoc}
use Rattle.std.specs.Prelude.{◌↔◌, ◌==◌, unsigned_abs}
use Rattle.std.specs.Fmt.{decimal}
use Rattle.std.specs.Str.{bytes_eq, is_utf8}
use Rattle.std.specs.List.{AllByRecursion, join_with_byte, before_first, after_first, position_or_len}
use Rattle.std.proofs.lemmas.Bool.{leb-true, eqb-true, cases_lt}
use Rattle.std.proofs.lemmas.List.{append-nil, drop_all}
use Rattle.std.proofs.lemmas.List.Splits.{join_with_byte-slice_split}
use Rattle.std.proofs.lemmas.List.Sums.{split_at_first, passes_at_first}
use Rattle.std.proofs.lemmas.Slice.Eq.{bytes_eq-Decides}
use Rattle.rational.specs.Rational.{Rational, whole}
use Rattle.fraction.specs.Text.{text_of}
use Rattle.fraction.specs.Fits.{fits, num_fits, den_fits}
use Rattle.fraction.specs.Canonical.{plain_digits_of, read_canonical_of}
use Rattle.fraction.specs.declared.read.ReadFault.{ReadFault}
use Rattle.fraction.specs.declared.read.ReadFault.TheVariants as fault
use Rattle.milp.specs.Form.{Entry}
use Rattle.rational.specs.Compare.{is_zero}
use Rattle.verdicts.specs.Certificate.{Version, One, Two, Item, Weights}
use Rattle.certificate_lines.specs.declared.fault.FaultKind.{FaultKind}
use Rattle.certificate_lines.specs.declared.fault.FaultKind.TheVariants.{BadLine}
use Rattle.certificate.specs.Written.{count_max, rank_of, AreItemsFrom, AreWeights, AreLeafWeights, IsForm}
use Rattle.certificate.specs.Text.{item_text, items_text, weights_text, leaf_text, entry_text, form_text, numbers_text}
use Rattle.certificate_lines.specs.Fields.{◌>>=◌, expect, count_of, index_of, numbered, number_of, some_number_of, whole_of, is_colon, fields_of, next_field, first_by, after_word, ended, numbers_of, entry_of, form_of, item_of, is_of, items_of, row_weights_of, weights_of, splits_of, with_splits, leaf_weights_of}
use Rattle.certificate_lines.proofs.Taken.{bind_ok, expect_ok, counted_ok, index_takes, nonzero_takes, entry_takes, form_entries}
use Rattle.certificate_reader.proofs.LinesTaken.{chosen, made_of_is}

-- the law of `fraction` on the texts of numbers
pub record Texts : Type 0 where
  pub fractions : (text : List ℕ) (q : Rational) → (read_canonical_of text ≡ Ok q) ↔ (IsTrue (fits q) × (text ≡ text_of q))
  pub digits : (text : List ℕ) (n : ℕ) → n < 10 ^ 64 → (plain_digits_of text ≡ Some n) ↔ (text ≡ decimal n)

-- ---- fields as text

-- each field after a blank
abbrev pub blanked : List (List ℕ) → List ℕ
blanked [] = []
blanked (f ∷ fs) = 32 ∷ (f ++ blanked fs)

join-blanked : (f : List ℕ) (fs : List (List ℕ)) → join_with_byte 32 (f ∷ fs) ≡ f ++ blanked fs
join-blanked f [] = sym (append-nil f)
join-blanked f (g ∷ gs) = ap (λ (rest : List ℕ). f ++ (32 ∷ rest)) (join-blanked g gs)

pub line_is : (line f : List ℕ) (fs : List (List ℕ)) → fields_of line ≡ f ∷ fs → line ≡ f ++ blanked fs
line_is line f fs h = sym (join_with_byte-slice_split 32 line) ∙ ap (join_with_byte 32) h ∙ join-blanked f fs

pub after_word_found : (word : List ℕ) (fields rest : List (List ℕ)) → after_word word fields ≡ Ok rest → fields ≡ word ∷ rest
after_word_found word [] rest h = absurd cc
after_word_found word (field ∷ fields) rest h =
    let e = expect_ok (bytes_eq field word) fields rest h in
    let same : field ≡ word = (bytes_eq-Decides field word).0 e.0 in
    ap (λ (f : List ℕ). f ∷ fields) same ∙ ap (λ (fs : List (List ℕ)). word ∷ fs) e.1

pub next_found : (fields : List (List ℕ)) (p : List ℕ × List (List ℕ)) → next_field fields ≡ Ok p → fields ≡ p.0 ∷ p.1
next_found [] p h = absurd cc
next_found (field ∷ fields) p h = subst (λ (q : List ℕ × List (List ℕ)). field ∷ fields ≡ q.0 ∷ q.1) (made_of_is (field, fields) p h) refl

pub ended_found : (fields : List (List ℕ)) (u : Unit {0}) → ended fields ≡ Ok u → fields ≡ []
ended_found [] u h = refl
ended_found (field ∷ fields) u h = absurd cc

pub first_found : {A : Type 0} (f : List ℕ → Result A FaultKind) (fields : List (List ℕ)) (x : A × List (List ℕ)) → first_by f fields ≡ Ok x → (field : List ℕ) × (fields ≡ field ∷ x.1) × (f field ≡ Ok x.0)
first_found {A = A} f fields x h =
    let a = bind_ok (next_field fields) (λ next. f next.0 >>= λ x. Ok (x, next.1)) x h in
    let b = bind_ok (f a.0.0) (λ y. Ok (y, a.0.1)) x a.2 in
    let is = made_of_is {A = A × List (List ℕ)} (b.0, a.0.1) x b.2 in
    (a.0.0, next_found fields a.0 a.1 ∙ ap (λ (y : A × List (List ℕ)). a.0.0 ∷ y.1) is, b.1 ∙ ap (λ (y : A × List (List ℕ)). Ok y.0) is)

-- ---- numbers

numbered_ok : (r : Result Rational ReadFault) (v : Rational) → numbered r ≡ Ok v → r ≡ Ok v
numbered_ok (Ok w) v h = let same : w ≡ v = made_of_is w v h in ap (λ (x : Rational). Ok x) same
numbered_ok (Err fault.NotANumber) v h = absurd cc
numbered_ok (Err fault.TooWide) v h = absurd cc

no_number : (v : Rational) → Err BadLine ≡ Ok v → ⊥
no_number v h = cc

pub number_found : Texts → (field : List ℕ) (v : Rational) → number_of field ≡ Ok v → (field ≡ text_of v) × IsTrue (fits v)
number_found law field v h =
    elim (chosen (is_utf8 field) (numbered (read_canonical_of field)) (Err BadLine) (Ok v) h) [
      | inl a ↦ let k = (law.fractions field v).0 (numbered_ok (read_canonical_of field) v a.1) in (k.1, k.0)
      | inr a ↦ absurd (no_number v a.1)
    ]

nothing_written : (v : Rational) → number_of [] ≡ Ok v → ⊥
nothing_written v h =
    elim (chosen (is_utf8 []) (numbered (read_canonical_of [])) (Err BadLine) (Ok v) h) [
      | inl a ↦ no_number v a.1
      | inr a ↦ no_number v a.1
    ]

pub count_found : Texts → (field : List ℕ) (n : ℕ) → count_of field ≡ Ok n → (field ≡ decimal n) × (n ≤ count_max)
count_found law field n h =
    let k = counted_ok (plain_digits_of field) n h in
    ((law.digits field n (omega (arith, k.1))).0 k.0, k.1)

pub index_found : Texts → (field : List ℕ) (i : ℕ) → index_of field ≡ Ok i → (field ≡ decimal (i + 1)) × (i < count_max)
index_found law field i h =
    let k = index_takes field i h in
    ((law.digits field (i + 1) (omega (arith, k.1))).0 k.0, k.1)

text_of-whole : (v : Rational) (z : ℤ) → v.denominator ≡ 1 → v.numerator ≡ z → text_of v ≡ text_of (whole z)
text_of-whole v z d n = rw (d, n) refl

and_left : (a b : Bool) → (a && b) ≡ true → a ≡ true
and_left true b h = refl
and_left false b h = absurd cc

pub whole_found : Texts → (field : List ℕ) (z : ℤ) → whole_of field ≡ Ok z → (field ≡ text_of (whole z)) × IsTrue (num_fits z)
whole_found law field z h =
    let a = bind_ok (number_of field) (λ v. expect (v.denominator == 1) v.numerator) z h in
    let b = expect_ok (a.0.denominator == 1) a.0.numerator z a.2 in
    let k = number_found law field a.0 a.1 in
    let one : a.0.denominator ≡ 1 = eqb-true _ _ b.0 in
    (k.0 ∙ text_of-whole a.0 z one b.1, subst (λ (n : ℤ). num_fits n ≡ true) b.1 (and_left (num_fits a.0.numerator) (den_fits a.0.denominator) k.1))

-- a field round its colon
around_colon : (field : List ℕ) (v : Rational) → number_of (after_first is_colon field) ≡ Ok v → field ≡ before_first is_colon field ++ (58 ∷ after_first is_colon field)
around_colon field v h =
    elim (cases_lt (position_or_len is_colon field) (length field)) [
      | inl lt ↦
          let colon : get_or field (position_or_len is_colon field) 0 ≡ 58 = eqb-true _ _ (passes_at_first is_colon field 0 lt) in
          split_at_first is_colon field 0 lt ∙ ap (λ (c : ℕ). before_first is_colon field ++ (c ∷ after_first is_colon field)) colon
      | inr le ↦
          let none : after_first is_colon field ≡ [] = drop_all (position_or_len is_colon field + 1) field (omega (arith, le)) in
          absurd (nothing_written v (subst (λ (f : List ℕ). number_of f ≡ Ok v) none h))
    ]

pair_found : Texts → (field : List ℕ) (i : ℕ) (v : Rational) → i < count_max → plain_digits_of (before_first is_colon field) ≡ Some (i + 1) → number_of (after_first is_colon field) ≡ Ok v → (field ≡ decimal (i + 1) ++ (58 ∷ text_of v)) × IsTrue (fits v)
pair_found law field i v small index number =
    let left : before_first is_colon field ≡ decimal (i + 1) = (law.digits (before_first is_colon field) (i + 1) (omega (arith, small))).0 index in
    let right = number_found law (after_first is_colon field) v number in
    (around_colon field v number ∙ ap (λ (a : List ℕ). a ++ (58 ∷ after_first is_colon field)) left ∙ ap (λ (b : List ℕ). decimal (i + 1) ++ (58 ∷ b)) right.0, right.1)

-- ---- points and forms

pub numbers_found : Texts → (n : ℕ) (fields : List (List ℕ)) (vs : List Rational) → numbers_of n fields ≡ Ok vs → (blanked fields ≡ numbers_text vs) × AllByRecursion (λ v. IsTrue (fits v)) vs
unfolding numbers_of
numbers_found law zero fields vs h =
    let a = bind_ok (ended fields) (λ _. Ok []) vs h in
    let none : [] ≡ vs = made_of_is [] vs a.2 in
    subst (λ (xs : List Rational). (blanked fields ≡ numbers_text xs) × AllByRecursion (λ v. IsTrue (fits v)) xs) none (ap blanked (ended_found fields a.0 a.1), tt)
numbers_found law (suc n) [] vs h = absurd cc
numbers_found law (suc n) (field ∷ fields) vs h =
    let a = bind_ok (number_of field) (λ v. numbers_of n fields >>= λ vs. Ok (v ∷ vs)) vs h in
    let b = bind_ok (numbers_of n fields) (λ vs. Ok (a.0 ∷ vs)) vs a.2 in
    let first = number_found law field a.0 a.1 in
    let rest = numbers_found law n fields b.0 b.1 in
    subst (λ (xs : List Rational). (blanked (field ∷ fields) ≡ numbers_text xs) × AllByRecursion (λ v. IsTrue (fits v)) xs) (made_of_is (a.0 ∷ b.0) vs b.2)
    (ap (λ (f : List ℕ). 32 ∷ (f ++ blanked fields)) first.0 ∙ ap (λ (t : List ℕ). 32 ∷ (text_of a.0 ++ t)) rest.0, (first.1, rest.1))

form_found_from : Texts → (least : ℕ) (fields : List (List ℕ)) (es : List Entry) → form_of least fields ≡ Ok es → (blanked fields ≡ form_text es) × AllByRecursion (λ e. IsTrue (fits e.coefficient)) es
unfolding form_of
form_found_from law least [] es h = subst (λ (xs : List Entry). (blanked [] ≡ form_text xs) × AllByRecursion (λ e. IsTrue (fits e.coefficient)) xs) (made_of_is [] es h) (refl, tt)
form_found_from law least (field ∷ fields) es h =
    let a = bind_ok (entry_of least field) (λ e. form_of (e.column + 1) fields >>= λ es. Ok (e ∷ es)) es h in
    let b = bind_ok (form_of (a.0.column + 1) fields) (λ es. Ok (a.0 ∷ es)) es a.2 in
    let t = entry_takes least field a.0 a.1 in
    let first = pair_found law field a.0.column a.0.coefficient t.small t.index t.number in
    let rest = form_found_from law (a.0.column + 1) fields b.0 b.1 in
    subst (λ (xs : List Entry). (blanked (field ∷ fields) ≡ form_text xs) × AllByRecursion (λ e. IsTrue (fits e.coefficient)) xs) (made_of_is (a.0 ∷ b.0) es b.2)
    (ap (λ (f : List ℕ). 32 ∷ (f ++ blanked fields)) first.0 ∙ ap (λ (u : List ℕ). entry_text a.0 ++ u) rest.0, (first.1, rest.1))

pub form_found : Texts → (fields : List (List ℕ)) (es : List Entry) → form_of 0 fields ≡ Ok es → (blanked fields ≡ form_text es) × IsForm es
form_found law fields es h =
    let k = form_found_from law 0 fields es h in
    (k.0, record { entries = form_entries 0 fields es h; numbers = k.1 })

-- ---- weights

pub record ItemTakes (least : ℕ) (field : List ℕ) (i : Item) : Type 0 where
  pub order : least ≤ rank_of i
  pub small : i.index < count_max
  pub index : plain_digits_of (before_first is_colon field) ≡ Some (i.index + 1)
  pub number : number_of (after_first is_colon field) ≡ Ok i.weight
  pub nonzero : is_zero i.weight ≡ false

pub item_takes : (least : ℕ) (field : List ℕ) (i : Item) → item_of least field ≡ Ok i → ItemTakes least field i
unfolding item_of
item_takes least field i read =
    let a = bind_ok (index_of (before_first is_colon field)) (λ index. expect (nat_le least (2 * index + 1)) index >>= λ next. some_number_of (after_first is_colon field) >>= λ w. expect (nat_le least (rank_of (record { index = next; weight = w }))) (record { index = next; weight = w })) i read in
    let b = bind_ok (expect (nat_le least (2 * a.0 + 1)) a.0) (λ next. some_number_of (after_first is_colon field) >>= λ w. expect (nat_le least (rank_of (record { index = next; weight = w }))) (record { index = next; weight = w })) i a.2 in
    let c = bind_ok (some_number_of (after_first is_colon field)) (λ w. expect (nat_le least (rank_of (record { index = b.0; weight = w }))) (record { index = b.0; weight = w })) i b.2 in
    let item : Item = record { index = b.0; weight = c.0 } in
    let d = expect_ok (nat_le least (rank_of item)) item i c.2 in
    let t = expect_ok (nat_le least (2 * a.0 + 1)) a.0 b.0 b.1 in
    let k = index_takes (before_first is_colon field) a.0 a.1 in
    let v = nonzero_takes (after_first is_colon field) c.0 c.1 in
    let small : b.0 < count_max = subst (λ (n : ℕ). n < count_max) t.1 k.1 in
    let index : plain_digits_of (before_first is_colon field) ≡ Some (b.0 + 1) = k.0 ∙ ap (λ (n : ℕ). Some (n + 1)) t.1 in
    subst (λ (x : Item). ItemTakes least field x) d.1 (record { order = leb-true _ _ d.0; small = small; index = index; number = v.0; nonzero = v.1 })

nonzero_number : (v : Rational) → is_zero v ≡ false → v.numerator ≢ pos 0
nonzero_number v h e = let zero_there : is_zero v ≡ true = ap (λ (n : ℤ). unsigned_abs n == 0) e in cc

is_of-cons : (kind : ℕ) (field : List ℕ) → is_of kind field ≡ true → field ≡ kind ∷ drop 1 field
is_of-cons kind [] h = absurd cc
is_of-cons kind (c ∷ cs) h = let same : c ≡ kind = eqb-true _ _ h in ap (λ (k : ℕ). k ∷ cs) same

pub record ItemsFound (kind least : ℕ) (fields : List (List ℕ)) (is : List Item) (rest : List (List ℕ)) : Type 0 where
  pub text : blanked fields ≡ items_text (kind ∷ []) is ++ blanked rest
  pub written : AreItemsFrom least is

pub items_found : Texts → (kind least : ℕ) (fields : List (List ℕ)) (x : List Item × List (List ℕ)) → items_of kind least fields ≡ Ok x → ItemsFound kind least fields x.0 x.1
unfolding items_of
items_found law kind least [] x h = subst (λ (y : List Item × List (List ℕ)). ItemsFound kind least [] y.0 y.1) (made_of_is ([], []) x h) (record { text = refl; written = tt })
items_found law kind least (field ∷ fields) x h =
    elim (chosen (is_of kind field) (item_of least (drop 1 field) >>= λ i. items_of kind (rank_of i + 1) fields >>= λ more. Ok (i ∷ more.0, more.1)) (Ok ([], field ∷ fields)) (Ok x) h) [
      | inl p ↦
          let a = bind_ok (item_of least (drop 1 field)) (λ i. items_of kind (rank_of i + 1) fields >>= λ more. Ok (i ∷ more.0, more.1)) x p.1 in
          let b = bind_ok (items_of kind (rank_of a.0 + 1) fields) (λ more. Ok (a.0 ∷ more.0, more.1)) x a.2 in
          let t = item_takes least (drop 1 field) a.0 a.1 in
          let first = pair_found law (drop 1 field) a.0.index a.0.weight t.small t.index t.number in
          let rest = items_found law kind (rank_of a.0 + 1) fields b.0 b.1 in
          let whole : field ≡ kind ∷ (decimal (a.0.index + 1) ++ (58 ∷ text_of a.0.weight)) = is_of-cons kind field p.0 ∙ ap (λ (f : List ℕ). kind ∷ f) first.0 in
          let made = made_of_is {A = List Item × List (List ℕ)} (a.0 ∷ b.0.0, b.0.1) x b.2 in
          subst (λ (y : List Item × List (List ℕ)). ItemsFound kind least (field ∷ fields) y.0 y.1) made (record {
            text = ap (λ (f : List ℕ). 32 ∷ (f ++ blanked fields)) whole ∙ ap (λ (u : List ℕ). item_text (kind ∷ []) a.0 ++ u) rest.text ∙ sym (append_assoc (item_text (kind ∷ []) a.0) (items_text (kind ∷ []) b.0.0) (blanked b.0.1));
            written = (t.order, record { index = t.small; some = nonzero_number a.0.weight t.nonzero; number = first.1 }, rest.written);
          })
      | inr p ↦
          let made = made_of_is {A = List Item × List (List ℕ)} ([], field ∷ fields) x p.1 in
          subst (λ (y : List Item × List (List ℕ)). ItemsFound kind least (field ∷ fields) y.0 y.1) made (record { text = refl; written = tt })
    ]

-- weights of rows, columns and derived rows, and the fields after them
pub record RowWeightsFound (fields : List (List ℕ)) (w : Weights) (rest : List (List ℕ)) : Type 0 where
  pub text : blanked fields ≡ weights_text w ++ blanked rest
  pub written : AreWeights w

weights_glue : (r l e k : List ℕ) → r ++ (l ++ (e ++ k)) ≡ (r ++ (l ++ e)) ++ k
weights_glue r l e k = simp append_assoc

pub row_weights_found : Texts → (fields : List (List ℕ)) (x : Weights × List (List ℕ)) → row_weights_of fields ≡ Ok x → RowWeightsFound fields x.0 x.1
unfolding row_weights_of
row_weights_found law fields x h =
    let a = bind_ok (items_of 114 0 fields) (λ rows. items_of 99 0 rows.1 >>= λ columns. items_of 100 0 columns.1 >>= λ derived. Ok (record { rows = rows.0; columns = columns.0; derived = derived.0; splits = [] }, derived.1)) x h in
    let b = bind_ok (items_of 99 0 a.0.1) (λ columns. items_of 100 0 columns.1 >>= λ derived. Ok (record { rows = a.0.0; columns = columns.0; derived = derived.0; splits = [] }, derived.1)) x a.2 in
    let c = bind_ok (items_of 100 0 b.0.1) (λ derived. Ok (record { rows = a.0.0; columns = b.0.0; derived = derived.0; splits = [] }, derived.1)) x b.2 in
    let rows = items_found law 114 0 fields a.0 a.1 in
    let columns = items_found law 99 0 a.0.1 b.0 b.1 in
    let derived = items_found law 100 0 b.0.1 c.0 c.1 in
    let made : Weights = record { rows = a.0.0; columns = b.0.0; derived = c.0.0; splits = [] } in
    let r : List ℕ = items_text (114 ∷ []) a.0.0 in
    let l : List ℕ = items_text (99 ∷ []) b.0.0 in
    let e : List ℕ = items_text (100 ∷ []) c.0.0 in
    subst (λ (y : Weights × List (List ℕ)). RowWeightsFound fields y.0 y.1) (made_of_is {A = Weights × List (List ℕ)} (made, c.0.1) x c.2) (record {
      text = rows.text ∙ ap (λ (u : List ℕ). r ++ u) (columns.text ∙ ap (λ (u : List ℕ). l ++ u) derived.text) ∙ weights_glue r l e (blanked c.0.1);
      written = record { rows = rows.written; columns = columns.written; derived = derived.written; splits = refl };
    })

pub weights_found : Texts → (fields : List (List ℕ)) (w : Weights) → weights_of fields ≡ Ok w → (blanked fields ≡ weights_text w) × AreWeights w
unfolding weights_of
weights_found law fields w h =
    let a = bind_ok (row_weights_of fields) (λ weights. ended weights.1 >>= λ _. Ok weights.0) w h in
    let b = bind_ok (ended a.0.1) (λ _. Ok a.0.0) w a.2 in
    let found = row_weights_found law fields a.0 a.1 in
    let none : blanked a.0.1 ≡ [] = ap blanked (ended_found a.0.1 b.0 b.1) in
    subst (λ (x : Weights). (blanked fields ≡ weights_text x) × AreWeights x) (made_of_is a.0.0 w b.2)
    (found.text ∙ ap (λ (u : List ℕ). weights_text a.0.0 ++ u) none ∙ append-nil (weights_text a.0.0), found.written)

splits_found : Texts → (v : Version) (fields : List (List ℕ)) (x : List Item × List (List ℕ)) → splits_of v fields ≡ Ok x → ItemsFound 115 0 fields x.0 x.1
unfolding splits_of
splits_found law One fields x h = subst (λ (y : List Item × List (List ℕ)). ItemsFound 115 0 fields y.0 y.1) (made_of_is ([], fields) x h) (record { text = refl; written = tt })
splits_found law Two fields x h = items_found law 115 0 fields x h

pub leaf_weights_found : Texts → (v : Version) (fields : List (List ℕ)) (w : Weights) → leaf_weights_of v fields ≡ Ok w → (blanked fields ≡ leaf_text w) × AreLeafWeights w
unfolding leaf_weights_of
leaf_weights_found law v fields w h =
    let a = bind_ok (row_weights_of fields) (λ weights. splits_of v weights.1 >>= λ splits. ended splits.1 >>= λ _. Ok (with_splits weights.0 splits.0)) w h in
    let b = bind_ok (splits_of v a.0.1) (λ splits. ended splits.1 >>= λ _. Ok (with_splits a.0.0 splits.0)) w a.2 in
    let c = bind_ok (ended b.0.1) (λ _. Ok (with_splits a.0.0 b.0.0)) w b.2 in
    let rows = row_weights_found law fields a.0 a.1 in
    let splits = splits_found law v a.0.1 b.0 b.1 in
    let none : blanked b.0.1 ≡ [] = ap blanked (ended_found b.0.1 c.0 c.1) in
    let s : List ℕ = items_text (115 ∷ []) b.0.0 in
    subst (λ (x : Weights). (blanked fields ≡ leaf_text x) × AreLeafWeights x) (made_of_is (with_splits a.0.0 b.0.0) w c.2)
    (rows.text ∙ ap (λ (u : List ℕ). weights_text a.0.0 ++ u) (splits.text ∙ ap (λ (u : List ℕ). s ++ u) none ∙ append-nil s), record { rows = rows.written.rows; columns = rows.written.columns; derived = rows.written.derived; splits = splits.written })
