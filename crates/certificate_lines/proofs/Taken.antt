-- What is read of a field is what the field writes.
use Rattle.std.proofs.Common.{◌≡◌, ◌∙◌, ℕ, ◌+◌, ◌-◌, ◌≤◌, ◌<◌, List, [], ◌∷◌, Bool, true, false, nat_le, not, ◌&&◌, Option, Some, None, Result, Ok, Err, refl, ap, subst, arith, if◌then◌else◌}
use Rattle.std.specs.List.{before_first, after_first}
use Rattle.std.proofs.lemmas.Bool.{leb-true, le-leb, lt-ltb}
use Rattle.rational.specs.Rational.{Rational}
use Rattle.fraction.specs.Canonical.{plain_digits_of}
use Rattle.milp.specs.Form.{Entry}
use Rattle.verdicts.specs.Certificate.{One, Weights}
use Rattle.rational.specs.Compare.{is_zero}
use Rattle.instance.specs.WellFormed.{are_entries_from}
use Rattle.certificate_lines.specs.declared.fault.FaultKind.{FaultKind}
use Rattle.certificate_lines.specs.declared.fault.FaultKind.TheVariants.{TooWide}
use Rattle.certificate.specs.Written.{count_max}
use Rattle.certificate_lines.specs.Fields.{◌>>=◌, expect, counted, count_of, index_of, number_of, is_some, some_number_of, is_colon, entry_of, form_of, ended, row_weights_of, splits_of, with_splits, leaf_weights_of}

-- the value of a step that did not fail
pub bind_ok : {A B E : Type 0} (r : Result A E) (f : A → Result B E) (y : B) → (r >>= f) ≡ Ok y → (x : A) × (r ≡ Ok x) × (f x ≡ Ok y)
bind_ok (Ok x) f y e = (x, refl, e)
bind_ok (Err d) f y e = absurd cc

-- a test that did not fail
pub expect_ok : {A : Type 0} (b : Bool) (x y : A) → expect b x ≡ Ok y → (b ≡ true) × (x ≡ y)
expect_ok true x y e = (refl, cc)
expect_ok false x y e = absurd cc

abbrev done : {A E : Type 0} → A → Result A E
done x = Ok x

pub ok_is : {A : Type 0} (x y : A) → done {E = FaultKind} x ≡ done y → x ≡ y
ok_is x y e = cc

is_some-nonzero : (v : Rational) → is_some v ≡ true → is_zero v ≡ false
is_some-nonzero v h = by_test (is_zero v) h
  where
    by_test : (b : Bool) → (if b then false else true) ≡ true → b ≡ false
    by_test true h = absurd cc
    by_test false h = refl

pub nonzero_takes : (field : List ℕ) (v : Rational) → some_number_of field ≡ Ok v → (number_of field ≡ Ok v) × (is_zero v ≡ false)
nonzero_takes field v read =
    let a = bind_ok (number_of field) (λ v. expect (is_some v) v) v read in
    let b = expect_ok (is_some a.0) a.0 v a.2 in
    (a.1 ∙ ap (λ (x : Rational). Ok x) b.1, subst (λ (x : Rational). is_zero x ≡ false) b.1 (is_some-nonzero a.0 b.0))

pub counted_ok : (o : Option ℕ) (n : ℕ) → counted o ≡ Ok n → (o ≡ Some n) × (n ≤ count_max)
counted_ok None n h = absurd cc
counted_ok (Some m) n h = by_test (nat_le m count_max) refl h
  where
    by_test : (b : Bool) → nat_le m count_max ≡ b → (if b then Ok m else Err TooWide) ≡ Ok n → (Some m ≡ Some n) × (n ≤ count_max)
    by_test true is h = let same : m ≡ n = cc in (ap (λ (x : ℕ). Some x) same, subst (λ (x : ℕ). x ≤ count_max) same (leb-true _ _ is))
    by_test false is h = absurd cc

pub index_takes : (field : List ℕ) (i : ℕ) → index_of field ≡ Ok i → (plain_digits_of field ≡ Some (i + 1)) × (i < count_max)
index_takes field i read =
    let a = bind_ok (count_of field) (λ n. expect (nat_le 1 n) (n - 1)) i read in
    let b = expect_ok (nat_le 1 a.0) (a.0 - 1) i a.2 in
    let n = counted_ok (plain_digits_of field) a.0 a.1 in
    let some : 1 ≤ a.0 = leb-true _ _ b.0 in
    let is : a.0 ≡ i + 1 = omega (arith, some, b.1) in
    (n.0 ∙ ap (λ (x : ℕ). Some x) is, omega (arith, is, n.1))

pub record EntryTakes (least : ℕ) (field : List ℕ) (e : Entry) : Type 0 where
  pub order : least ≤ e.column
  pub small : e.column < count_max
  pub index : plain_digits_of (before_first is_colon field) ≡ Some (e.column + 1)
  pub number : number_of (after_first is_colon field) ≡ Ok e.coefficient
  pub nonzero : is_zero e.coefficient ≡ false

pub entry_takes : (least : ℕ) (field : List ℕ) (e : Entry) → entry_of least field ≡ Ok e → EntryTakes least field e
unfolding entry_of
entry_takes least field e read =
    let a = bind_ok (index_of (before_first is_colon field)) (λ column. expect (nat_le least column) column >>= λ next. some_number_of (after_first is_colon field) >>= λ v. Ok (record { column = next; coefficient = v })) e read in
    let b = bind_ok (expect (nat_le least a.0) a.0) (λ next. some_number_of (after_first is_colon field) >>= λ v. Ok (record { column = next; coefficient = v })) e a.2 in
    let c = bind_ok (some_number_of (after_first is_colon field)) (λ v. Ok (record { column = b.0; coefficient = v })) e b.2 in
    let t = expect_ok (nat_le least a.0) a.0 b.0 b.1 in
    let i = index_takes (before_first is_colon field) a.0 a.1 in
    let v = nonzero_takes (after_first is_colon field) c.0 c.1 in
    let made : Entry = record { column = b.0; coefficient = c.0 } in
    let is : made ≡ e = ok_is made e c.2 in
    subst (λ (x : Entry). EntryTakes least field x) is (record {
      order = subst (λ (n : ℕ). least ≤ n) t.1 (leb-true _ _ t.0);
      small = subst (λ (n : ℕ). n < count_max) t.1 i.1;
      index = i.0 ∙ ap (λ (n : ℕ). Some (n + 1)) t.1;
      number = v.0;
      nonzero = v.1;
    })

and_true : (a b : Bool) → a ≡ true → b ≡ true → (a && b) ≡ true
and_true true b h k = k
and_true false b h k = h

pub form_entries : (least : ℕ) (fields : List (List ℕ)) (es : List Entry) → form_of least fields ≡ Ok es → are_entries_from least count_max es ≡ true
unfolding form_of
form_entries least [] es read = subst (λ (xs : List Entry). are_entries_from least count_max xs ≡ true) (ok_is [] es read) refl
form_entries least (field ∷ fields) es read =
    let a = bind_ok (entry_of least field) (λ e. form_of (e.column + 1) fields >>= λ es. Ok (e ∷ es)) es read in
    let b = bind_ok (form_of (a.0.column + 1) fields) (λ es. Ok (a.0 ∷ es)) es a.2 in
    let t = entry_takes least field a.0 a.1 in
    let rest = form_entries (a.0.column + 1) fields b.0 b.1 in
    let all : are_entries_from least count_max (a.0 ∷ b.0) ≡ true = and_true _ _ (le-leb _ _ t.order) (and_true _ _ (lt-ltb _ _ t.small) (and_true _ _ (ap not t.nonzero) rest)) in
    subst (λ (xs : List Entry). are_entries_from least count_max xs ≡ true) (ok_is (a.0 ∷ b.0) es b.2) all

-- version 1 has no weights of splits
pub no_splits : (fields : List (List ℕ)) (w : Weights) → leaf_weights_of One fields ≡ Ok w → w.splits ≡ []
unfolding leaf_weights_of splits_of
no_splits fields w read =
    let a = bind_ok (row_weights_of fields) (λ weights. splits_of One weights.1 >>= λ splits. ended splits.1 >>= λ _. Ok (with_splits weights.0 splits.0)) w read in
    let b = bind_ok (ended a.0.1) (λ _. Ok (with_splits a.0.0 [])) w a.2 in
    subst (λ (x : Weights). x.splits ≡ []) (ok_is (with_splits a.0.0 []) w b.2) refl
