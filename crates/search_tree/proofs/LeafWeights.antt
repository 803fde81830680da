-- Where the sums of a node's weights have their faults.
use Rattle.std.proofs.Common.{◌≡◌, ◌∙◌, ℕ, ◌+◌, inl, inr, ◌==◌, nat_le, nat_lt, ◌&&◌, List, [], ◌∷◌, ◌++◌, map, slice_get, Bool, true, false, cond, if◌then◌else◌, Option, Some, None, is_some, Result, Ok, IfOk, refl, sym, ap, subst, arith, append-nil}
use Rattle.std.specs.Prelude.{pos, negsuc, ◌+ℤ◌, option_and_then}
use mathlib.Core.Path.{ap₂}
use Rattle.std.proofs.lemmas.Bool.Decides.{nat_tests}
use Rattle.std.proofs.lemmas.Option.{same_Some}
use Rattle.rational.specs.Rational.{Rational, zero_ℚ, one_ℚ, whole, neg_ℚ, ◌+ℚ◌, ◌*ℚ◌}
use Rattle.rational.proofs.Laws as Q
use Rattle.milp.specs.Form.{Entry}
use Rattle.milp.specs.Problem.{Column, Row, Problem}
use Rattle.fraction.specs.declared.frac.NoFit.{NoFit}
use Rattle.instance.specs.Sums.{and_then, form_of}
use Rattle.verdicts.specs.WeightedSums.{scaled, Weighted, coefficient_of}
use Rattle.rational.specs.Compare.{is_less, is_same, is_zero}
use Rattle.verdicts.specs.Certificate.{Item, Weights, Side, Low, High, Derived}
use Rattle.verdicts.specs.Proves.{lower_under, upper_under, side_form, side_bound, way_get, term, bound_used, row_term, column_term, derived_term, split_term, joined, gathered, terms}
use Rattle.verdicts.specs.Migrated.{source, kept_if, kept, on_split, placed, placed_if, with_splits, named}
use Rattle.basis.specs.Node.{split_form}
use Rattle.basis.specs.Weights.{IsNodeWeights}
use Rattle.basis.specs.Numbers.{Numbers, IsSitePair, sum_onto, IsNodeBase, IsNodeProducts, node_numbers, AllWeights, AreNodeWeights}
use Rattle.cert_check.specs.Sums.{and_also, with_product, next_answer, lower_answer, row_bound, derived_bound, taken_bound, split_bound, then_there, are_there, all_there, with_bound, with_bounds, bound_sum, Product, products, derived_form, taken_form, item_products, weight_products, with_products, are_forms}
use Rattle.cert_check.specs.Parts.{ascending, shown_answer}
use Rattle.cert_check.specs.Lookup.{entry_at}
use Rattle.cert_check.proofs.Laws.{if_ok, ok_then, next_ok, product_ok, all_there_ok, coefficient_found, coefficient_none, products_found, products_none}
use Rattle.search_tree.specs.Ascending.{AreFormsAscending}
use Rattle.search_tree.specs.Work.{node_setting}
use Rattle.search_tree.proofs.FaultsTold.{Told, then_told, next_told, also_told, cond_told, product_told, sum_one_more, one_more, next_pair, Thinned, AreBase, all_told, thinned-append, base-append}
use Rattle.search_tree.proofs.NodeNumbers.{way_place, one_base, AreCoefficients, row_coefficients, derived_coefficients, row_bound_base, column_bound_base, derived_bound_base, side_coefficients, side_bound_base, side_told}

-- ---- the terms of items, one by one

abbrev AreTerms : (Item → Option Weighted) → List Item → List Weighted → Type 0
AreTerms f [] [] = Unit {0}
AreTerms f [] (t ∷ ts) = ⊥
AreTerms f (i ∷ is) [] = ⊥
AreTerms f (i ∷ is) (t ∷ ts) = (f i ≡ Some t) × AreTerms f is ts

-- how the terms of some items begin a list
record Begins (f : Item → Option Weighted) (items : List Item) (rest : Option (List Weighted)) (all : List Weighted) : Type 0 where
  ts : List Weighted
  us : List Weighted
  terms : AreTerms f items ts
  more : rest ≡ Some us
  whole : all ≡ ts ++ us

begins : (f : Item → Option Weighted) (items : List Item) (rest : Option (List Weighted)) (all : List Weighted) → gathered f items rest ≡ Some all → Begins f items rest all
begins f [] rest all e = record { ts = []; us = all; terms = tt; more = e; whole = refl }
begins f (i ∷ is) rest all e = go (f i) refl (gathered f is rest) (λ rs k. begins f is rest rs k) e
  where
    go : (o : Option Weighted) → f i ≡ o → (r : Option (List Weighted)) → ((rs : List Weighted) → r ≡ Some rs → Begins f is rest rs) → joined o r ≡ Some all → Begins f (i ∷ is) rest all
    go None h r k e = cc
    go (Some t) h None k e = cc
    go (Some t) h (Some rs) k e =
        let tail = k rs refl in
        record { ts = t ∷ tail.ts; us = tail.us; terms = (h, tail.terms); more = tail.more; whole = sym (same_Some (t ∷ rs) all e) ∙ ap (λ (xs : List Weighted). t ∷ xs) tail.whole }

term_is : (w : Rational) (form : List Entry) (o : Option Rational) (t : Weighted) → term w form o ≡ Some t → (o ≡ Some t.bound) × (t ≡ record { weight = w; form = form; bound = t.bound })
term_is w form None t e = cc
term_is w form (Some b) t e =
    let same : record { weight = w; form = form; bound = b } ≡ t = same_Some _ _ e in
    (ap (λ (u : Weighted). Some u.bound) same, subst (λ (u : Weighted). u ≡ record { weight = w; form = form; bound = u.bound }) same refl)

-- ---- what is summed

abbrev at_column : ℕ → Weighted → Rational
at_column j t = t.weight *ℚ coefficient_of t.form j

abbrev at_bound : Weighted → Rational
at_bound t = t.weight *ℚ t.bound

map-append : (f : Weighted → Rational) (xs ys : List Weighted) → map f (xs ++ ys) ≡ map f xs ++ map f ys
map-append f [] ys = refl
map-append f (x ∷ xs) ys = ap (λ (t : List Rational). f x ∷ t) (map-append f xs ys)

sum-append : (s : Rational) (xs ys : List Rational) → sum_onto s (xs ++ ys) ≡ sum_onto (sum_onto s xs) ys
sum-append s [] ys = refl
sum-append s (x ∷ xs) ys = sum-append (s +ℚ x) xs ys

append-append : (xs ys zs : List Rational) → (xs ++ ys) ++ zs ≡ xs ++ (ys ++ zs)
append-append [] ys zs = refl
append-append (x ∷ xs) ys zs = ap (λ (t : List Rational). x ∷ t) (append-append xs ys zs)

one_thin : (w : Rational) (form : List Entry) (j : ℕ) → ascending 0 form ≡ true → Thinned (products w form j) ((w *ℚ coefficient_of form j) ∷ [])
one_thin w form j h = go (entry_at form j) refl
  where
    go : (o : Option Rational) → entry_at form j ≡ o → Thinned (products w form j) ((w *ℚ coefficient_of form j) ∷ [])
    go None e =
        let P : List Product → Type 0 = λ ps. Thinned ps ((w *ℚ coefficient_of form j) ∷ []) in
        let R : Rational → Type 0 = λ c. Thinned [] ((w *ℚ c) ∷ []) in
        subst P (sym (products_none w form j e)) (subst R (sym (coefficient_none form j e)) (Q.mul-zero w, tt))
    go (Some c) e =
        let P : List Product → Type 0 = λ ps. Thinned ps ((w *ℚ coefficient_of form j) ∷ []) in
        let product : Product = record { weight = w; factor = c } in
        let R : Rational → Type 0 = λ d. Thinned (product ∷ []) ((w *ℚ d) ∷ []) in
        subst P (sym (products_found w form j c h e)) (subst R (sym (coefficient_found form j c h e)) (inl (refl, tt)))

-- the numbers of four lists, one after the other
four_parts : (f : Weighted → Rational) (all rows columns derived splits : List Weighted) → all ≡ rows ++ (columns ++ (derived ++ splits)) → map f all ≡ map f rows ++ (map f columns ++ (map f derived ++ map f splits))
four_parts f all rows columns derived splits e =
    ap (map f) e ∙ map-append f rows (columns ++ (derived ++ splits))
    ∙ ap (λ (ns : List Rational). map f rows ++ ns) (map-append f columns (derived ++ splits) ∙ ap (λ (ns : List Rational). map f columns ++ ns) (map-append f derived splits))

-- ---- forms of sides

scaled_ascends : (w : Rational) (least : ℕ) (es : List Entry) → ascending least (scaled w es) ≡ ascending least es
scaled_ascends w least [] = refl
scaled_ascends w least (e ∷ es) = ap (λ (b : Bool). nat_le least e.column && b) (scaled_ascends w (e.column + 1) es)

side_ascends : (s : Side) → ascending 0 (split_form s) ≡ true → ascending 0 (side_form s) ≡ true
side_ascends (Low s) h = scaled_ascends (whole (negsuc 0)) 0 s.form ∙ h
side_ascends (High s) h = h

-- ---- weights that name splits: those of columns, or their negatives

kept_base : (P : Rational → Type 0) (p : Problem) (sides : List Side) (is : List Item) → AllWeights P is → AllWeights P (kept p sides is)
kept_base P p sides [] h = tt
kept_base P p sides (i ∷ is) h = go (source p sides i) (kept_base P p sides is h.1)
  where
    go : (k : Option ℕ) → AllWeights P (kept p sides is) → AllWeights P (kept_if k i (kept p sides is))
    go None r = (h.0, r)
    go (Some k) r = r

placed_base : (P : Rational → Type 0) (i : Item) (is : List Item) → P i.weight → AllWeights P is → AllWeights P (placed i is)
placed_base P i [] h k = (h, tt)
placed_base P i (j ∷ js) h k = go (nat_lt j.index i.index) (placed_base P i js h k.1)
  where
    go : (b : Bool) → AllWeights P (placed i js) → AllWeights P (if b then j ∷ placed i js else i ∷ j ∷ js)
    go true r = (k.0, r)
    go false r = (h, k)

on_split_base : (P : Rational → Type 0) (k : ℕ) (i : Item) → P i.weight → P (neg_ℚ i.weight) → P (on_split k i).weight
on_split_base P k i h n = go (is_less zero_ℚ i.weight)
  where
    go : (b : Bool) → P (if b then i.weight else neg_ℚ i.weight)
    go true = h
    go false = n

splits_base : (P : Rational → Type 0) (p : Problem) (sides : List Side) (is : List Item) → AllWeights P is → AllWeights (λ a. P (neg_ℚ a)) is → AllWeights P (with_splits p sides is [])
splits_base P p sides [] h n = tt
splits_base P p sides (i ∷ is) h n = go (source p sides i) (splits_base P p sides is h.1 n.1)
  where
    pick : (k : ℕ) (b : Bool) → AllWeights P (with_splits p sides is []) → AllWeights P (if b then with_splits p sides is [] else placed (on_split k i) (with_splits p sides is []))
    pick k true r = r
    pick k false r = placed_base P (on_split k i) (with_splits p sides is []) (on_split_base P k i h.0 n.0) r

    go : (o : Option ℕ) → AllWeights P (with_splits p sides is []) → AllWeights P (placed_if o i (with_splits p sides is []))
    go None r = r
    go (Some k) r = pick k (is_zero i.weight) r

-- ---- at a node

module _ (p : Problem) (ds : List Derived) (sides : List Side) where
  products_base : (w : Rational) (form : List Entry) (j : ℕ) → IsNodeBase p ds sides w → AreCoefficients p ds sides form → AreBase (node_numbers p ds sides) (products w form j)
  products_base w [] j h k = tt
  products_base w (e ∷ es) j h k = go (e.column == j) (products_base w es j h k.1)
    where
      go : (t : Bool) → AreBase (node_numbers p ds sides) (products w es j) → AreBase (node_numbers p ds sides) (if t then record { weight = w; factor = e.coefficient } ∷ products w es j else products w es j)
      go true r = ((h, k.0), r)
      go false r = r

  -- what an item of one kind names: its term, and the form and the bound that the check finds
  record IsKind (named : Item → Option Weighted) (form : ℕ → List Entry) (bound : Item → Result (Option Rational) NoFit) : Type 0 where
    is : (i : Item) (t : Weighted) → named i ≡ Some t → t ≡ record { weight = i.weight; form = form i.index; bound = t.bound }
    found : (i : Item) (t : Weighted) → named i ≡ Some t → IfOk (bound i) (λ o. o ≡ Some t.bound)
    base : (i : Item) (t : Weighted) → named i ≡ Some t → IsNodeBase p ds sides t.bound
    told : (i : Item) → Told (node_numbers p ds sides) (bound i)
    coefficients : (i : ℕ) → AreCoefficients p ds sides (form i)
    ascends : (i : ℕ) → ascending 0 (form i) ≡ true

  -- ---- the sums of one kind

  module _ (named : Item → Option Weighted) (form : ℕ → List Entry) (bound : Item → Result (Option Rational) NoFit) (kind : IsKind named form bound) where
    items_thin : (items : List Item) (ts : List Weighted) (j : ℕ) → AreTerms named items ts → Thinned (item_products form items j) (map (at_column j) ts)
    items_thin [] [] j h = tt
    items_thin [] (t ∷ ts) j h = absurd h
    items_thin (i ∷ is) [] j h = absurd h
    items_thin (i ∷ is) (t ∷ ts) j h =
        let P : Weighted → Type 0 = λ u. Thinned (products i.weight (form i.index) j) (at_column j u ∷ []) in
        thinned-append (at_column j t ∷ []) (map (at_column j) ts) (products i.weight (form i.index) j) (item_products form is j)
        (subst P (sym (kind.is i t h.0)) (one_thin i.weight (form i.index) j (kind.ascends i.index))) (items_thin is ts j h.1)

    items_base : (items : List Item) (j : ℕ) → AllWeights (IsNodeBase p ds sides) items → AreBase (node_numbers p ds sides) (item_products form items j)
    items_base [] j k = tt
    items_base (i ∷ is) j k = base-append (node_numbers p ds sides) (products i.weight (form i.index) j) (item_products form is j) (products_base i.weight (form i.index) j k.0 (kind.coefficients i.index)) (items_base is j k.1)

    bounds_told : (numbers : List Rational) → IsNodeProducts p ds sides numbers → (items : List Item) (ts : List Weighted) → AreTerms named items ts → AllWeights (IsNodeBase p ds sides) items
        → (done rest : List Rational) → numbers ≡ done ++ (map at_bound ts ++ rest) → (total : Rational) → total ≡ sum_onto zero_ℚ done → Told (node_numbers p ds sides) (with_bounds bound total items)
    bounds_told numbers h [] ts named_ok base done rest e total is = tt
    bounds_told numbers h (i ∷ others) [] named_ok base done rest e total is = absurd named_ok
    bounds_told numbers h (i ∷ others) (t ∷ ts) named_ok base done rest e total is =
        let ns = node_numbers p ds sides in
        let weight : t.weight ≡ i.weight = ap (λ (u : Weighted). u.weight) (kind.is i t named_ok.0) in
        let more : List Rational = map at_bound ts ++ rest in
        let P : Option Rational → Type 0 = λ o. Told (node_numbers p ds sides) (and_then (with_bound total i.weight o) (λ u. with_bounds bound u others)) in
        let R : Rational → Type 0 = λ w. IsSitePair (node_numbers p ds sides) total (w *ℚ t.bound) in
        let S : Rational → Type 0 = λ s. IsSitePair (node_numbers p ds sides) s (at_bound t) in
        then_told (node_numbers p ds sides) (bound i) (λ o. and_then (with_bound total i.weight o) (λ u. with_bounds bound u others)) (λ o. o ≡ Some t.bound) (kind.told i) (kind.found i t named_ok.0)
        (λ o eo. subst P (sym eo)
        (then_told (node_numbers p ds sides) (with_product total i.weight t.bound) (λ u. with_bounds bound u others) (λ u. u ≡ total +ℚ i.weight *ℚ t.bound)
        (product_told (node_numbers p ds sides) total i.weight t.bound base.0 (kind.base i t named_ok.0) (subst R weight (subst S (sym is) (next_pair (node_numbers p ds sides) numbers done (at_bound t) more h e))))
        (product_ok total i.weight t.bound)
        (λ u eu. bounds_told numbers h others ts named_ok.1 base.1 (done ++ (at_bound t ∷ [])) rest (e ∙ sym (one_more done (at_bound t) more)) u
        (eu ∙ ap₂ (λ (s w : Rational). s +ℚ w *ℚ t.bound) is (sym weight) ∙ sym (sum_one_more zero_ℚ done (at_bound t))))))

    bounds_sum : (items : List Item) (ts : List Weighted) → AreTerms named items ts → (total : Rational) → IfOk (with_bounds bound total items) (λ v. v ≡ sum_onto total (map at_bound ts))
    bounds_sum [] [] named_ok total = refl
    bounds_sum [] (t ∷ ts) named_ok total = absurd named_ok
    bounds_sum (i ∷ others) [] named_ok total = absurd named_ok
    bounds_sum (i ∷ others) (t ∷ ts) named_ok total =
        let weight : t.weight ≡ i.weight = ap (λ (u : Weighted). u.weight) (kind.is i t named_ok.0) in
        let wanted : Rational → Type 0 = λ v. v ≡ sum_onto (total +ℚ at_bound t) (map at_bound ts) in
        let P : Option Rational → Type 0 = λ o. IfOk (and_then (with_bound total i.weight o) (λ u. with_bounds bound u others)) wanted in
        ok_then (bound i) (λ o. and_then (with_bound total i.weight o) (λ u. with_bounds bound u others)) (λ o. o ≡ Some t.bound) wanted (kind.found i t named_ok.0)
        (λ o eo. subst P (sym eo)
        (ok_then (with_product total i.weight t.bound) (λ u. with_bounds bound u others) (λ u. u ≡ total +ℚ i.weight *ℚ t.bound) wanted (product_ok total i.weight t.bound)
        (λ u eu. if_ok (with_bounds bound u others) (sum_onto u (map at_bound ts)) (sum_onto (total +ℚ at_bound t) (map at_bound ts)) (bounds_sum others ts named_ok.1 u)
        (ap (λ (s : Rational). sum_onto s (map at_bound ts)) (eu ∙ ap (λ (w : Rational). total +ℚ w *ℚ t.bound) (sym weight))))))

    there_told : (items : List Item) → Told (node_numbers p ds sides) (are_there bound items)
    there_told [] = tt
    there_told (i ∷ is) = next_told (node_numbers p ds sides) (bound i) (λ o. then_there o (are_there bound is)) (kind.told i) (λ o. go o (there_told is))
      where
        go : (o : Option Rational) → Told (node_numbers p ds sides) (are_there bound is) → Told (node_numbers p ds sides) (then_there o (are_there bound is))
        go None k = tt
        go (Some b) k = k

  -- ---- the three kinds

  abbrev row_form_at : ℕ → List Entry
  row_form_at i = form_of (slice_get p.rows i)

  abbrev row_bound_at : Item → Result (Option Rational) NoFit
  row_bound_at i = Ok (row_bound i.weight (slice_get p.rows i.index))

  -- a row's term
  record IsRowTerm (i : Item) (t : Weighted) : Type 0 where
    row : Row
    at : slice_get p.rows i.index ≡ Some row
    used : bound_used i.weight row.lower row.upper ≡ Some t.bound
    is : t ≡ record { weight = i.weight; form = row.entries; bound = t.bound }

  row_term_is : (i : Item) (t : Weighted) → row_term p i ≡ Some t → IsRowTerm i t
  row_term_is i t e = go (slice_get p.rows i.index) refl e
    where
      go : (o : Option Row) → slice_get p.rows i.index ≡ o → option_and_then (λ (r : Row). term i.weight r.entries (bound_used i.weight r.lower r.upper)) o ≡ Some t → IsRowTerm i t
      go None h k = cc
      go (Some r) h k =
          let parts = term_is i.weight r.entries (bound_used i.weight r.lower r.upper) t k in
          record { row = r; at = h; used = parts.0; is = parts.1 }

  rows_kind : ((i : ℕ) (r : Row) → slice_get p.rows i ≡ Some r → ascending 0 r.entries ≡ true) → IsKind (row_term p) row_form_at row_bound_at
  rows_kind ascends = record {
    is = λ i t e. let it = row_term_is i t e in let P : Option Row → Type 0 = λ o. t ≡ record { weight = i.weight; form = form_of o; bound = t.bound } in subst P (sym it.at) it.is;
    found = λ i t e. let it = row_term_is i t e in ap (row_bound i.weight) it.at ∙ it.used;
    base = λ i t e. let it = row_term_is i t e in row_bound_base p ds sides i.index it.row i.weight t.bound it.at it.used;
    told = λ i. tt;
    coefficients = λ i. coefficients i (slice_get p.rows i) refl;
    ascends = λ i. ascend i (slice_get p.rows i) refl;
  }
    where
      coefficients : (i : ℕ) (o : Option Row) → slice_get p.rows i ≡ o → AreCoefficients p ds sides (form_of o)
      coefficients i None e = tt
      coefficients i (Some r) e = row_coefficients p ds sides i r e

      ascend : (i : ℕ) (o : Option Row) → slice_get p.rows i ≡ o → ascending 0 (form_of o) ≡ true
      ascend i None e = refl
      ascend i (Some r) e = ascends i r e

  abbrev unit_form_at : ℕ → List Entry
  unit_form_at i = record { column = i; coefficient = one_ℚ } ∷ []

  abbrev column_bound_at : Item → Result (Option Rational) NoFit
  column_bound_at i = if is_less zero_ℚ i.weight then lower_answer p [] i.index else Ok (upper_under p [] i.index)

  abbrev column_bound : Item → Option Rational
  column_bound i = bound_used i.weight (lower_under p [] i.index) (upper_under p [] i.index)

  column_found : (i : Item) → IfOk (column_bound_at i) (λ o. o ≡ column_bound i)
  column_found i = go (is_less zero_ℚ i.weight)
    where
      go : (t : Bool) → IfOk (if t then lower_answer p [] i.index else Ok (upper_under p [] i.index)) (λ o. o ≡ (if t then lower_under p [] i.index else upper_under p [] i.index))
      go true = refl
      go false = refl

  column_told : (i : Item) → Told (node_numbers p ds sides) (column_bound_at i)
  column_told i = go (is_less zero_ℚ i.weight)
    where
      go : (t : Bool) → Told (node_numbers p ds sides) (if t then lower_answer p [] i.index else Ok (upper_under p [] i.index))
      go true = tt
      go false = tt

  unit_ascends : (i : ℕ) → ascending 0 (record { column = i; coefficient = one_ℚ } ∷ []) ≡ true
  unit_ascends i = grind (arith, nat_tests)

  columns_kind : IsKind (column_term p []) unit_form_at column_bound_at
  columns_kind = record {
    is = λ i t e. (term_is i.weight (unit_form_at i.index) (column_bound i) t e).1;
    found = λ i t e. if_ok (column_bound_at i) (column_bound i) (Some t.bound) (column_found i) (term_is i.weight (unit_form_at i.index) (column_bound i) t e).0;
    base = λ i t e. column_bound_base p ds sides i.index i.weight t.bound (term_is i.weight (unit_form_at i.index) (column_bound i) t e).0;
    told = column_told;
    coefficients = λ i. (one_base p ds sides, tt);
    ascends = unit_ascends;
  }

  abbrev derived_form_at : ℕ → List Entry
  derived_form_at i = derived_form (slice_get ds i)

  abbrev derived_bound_at : Item → Result (Option Rational) NoFit
  derived_bound_at i = Ok (derived_bound i.weight (slice_get ds i.index))

  -- a derived row's term
  record IsDerivedTerm (i : Item) (t : Weighted) : Type 0 where
    derived : Derived
    at : slice_get ds i.index ≡ Some derived
    positive : is_less zero_ℚ i.weight ≡ true
    is : record { weight = i.weight; form = derived.form; bound = derived.bound } ≡ t

  derived_term_is : (i : Item) (t : Weighted) → derived_term ds i ≡ Some t → IsDerivedTerm i t
  derived_term_is i t e = go (is_less zero_ℚ i.weight) refl (slice_get ds i.index) refl e
    where
      go : (b : Bool) → is_less zero_ℚ i.weight ≡ b → (o : Option Derived) → slice_get ds i.index ≡ o → (if b then option_and_then (λ (d : Derived). term i.weight d.form (Some d.bound)) o else None) ≡ Some t → IsDerivedTerm i t
      go false h o k e = cc
      go true h None k e = cc
      go true h (Some d) k e = record { derived = d; at = k; positive = h; is = same_Some _ _ e }

  deriveds_kind : ((i : ℕ) (d : Derived) → slice_get ds i ≡ Some d → ascending 0 d.form ≡ true) → IsKind (derived_term ds) derived_form_at derived_bound_at
  deriveds_kind ascends = record { is = is; found = found; base = base; told = λ i. tt; coefficients = λ i. coefficients i (slice_get ds i) refl; ascends = λ i. ascend i (slice_get ds i) refl }
    where
      is : (i : Item) (t : Weighted) → derived_term ds i ≡ Some t → t ≡ record { weight = i.weight; form = derived_form (slice_get ds i.index); bound = t.bound }
      is i t e =
          let it = derived_term_is i t e in
          let P : Option Derived → Type 0 = λ o. t ≡ record { weight = i.weight; form = derived_form o; bound = t.bound } in
          let R : Weighted → Type 0 = λ u. u ≡ record { weight = i.weight; form = it.derived.form; bound = u.bound } in
          subst P (sym it.at) (subst R it.is refl)

      found : (i : Item) (t : Weighted) → derived_term ds i ≡ Some t → derived_bound i.weight (slice_get ds i.index) ≡ Some t.bound
      found i t e =
          let it = derived_term_is i t e in
          let P : Option Derived → Type 0 = λ o. derived_bound i.weight o ≡ Some t.bound in
          let R : Bool → Type 0 = λ b. (if b then Some it.derived.bound else None) ≡ Some t.bound in
          subst P (sym it.at) (subst R (sym it.positive) (ap (λ (u : Weighted). Some u.bound) it.is))

      base : (i : Item) (t : Weighted) → derived_term ds i ≡ Some t → IsNodeBase p ds sides t.bound
      base i t e =
          let it = derived_term_is i t e in
          let P : Rational → Type 0 = IsNodeBase p ds sides in
          subst P (ap (λ (u : Weighted). u.bound) it.is) (derived_bound_base p ds sides i.index it.derived it.at)

      coefficients : (i : ℕ) (o : Option Derived) → slice_get ds i ≡ o → AreCoefficients p ds sides (derived_form o)
      coefficients i None e = tt
      coefficients i (Some d) e = derived_coefficients p ds sides i d e

      ascend : (i : ℕ) (o : Option Derived) → slice_get ds i ≡ o → ascending 0 (derived_form o) ≡ true
      ascend i None e = refl
      ascend i (Some d) e = ascends i d e

  -- ---- splits on the way

  abbrev split_form_at : ℕ → List Entry
  split_form_at i = taken_form (way_get sides i)

  abbrev split_bound_at : Item → Result (Option Rational) NoFit
  split_bound_at i = split_bound i.weight (way_get sides i.index)

  -- a split's term
  record IsSplitTerm (i : Item) (t : Weighted) : Type 0 where
    side : Side
    at : way_get sides i.index ≡ Some side
    positive : is_less zero_ℚ i.weight ≡ true
    is : record { weight = i.weight; form = side_form side; bound = side_bound side } ≡ t

  split_term_is : (i : Item) (t : Weighted) → split_term sides i ≡ Some t → IsSplitTerm i t
  split_term_is i t e = go (is_less zero_ℚ i.weight) refl (way_get sides i.index) refl e
    where
      go : (b : Bool) → is_less zero_ℚ i.weight ≡ b → (o : Option Side) → way_get sides i.index ≡ o → (if b then option_and_then (λ (s : Side). term i.weight (side_form s) (Some (side_bound s))) o else None) ≡ Some t → IsSplitTerm i t
      go false h o k e = cc
      go true h None k e = cc
      go true h (Some s) k e = record { side = s; at = k; positive = h; is = same_Some _ _ e }

  taken_ok : (s : Side) → IfOk (taken_bound s) (λ o. o ≡ Some (side_bound s))
  taken_ok (Low s) = refl
  taken_ok (High s) = ok_then (next_answer s.at) (λ b. Ok (Some b)) (λ b. b ≡ whole (s.at +ℤ pos 1)) (λ o. o ≡ Some (whole (s.at +ℤ pos 1))) (next_ok s.at) (λ b e. ap Some e)

  splits_kind : ((k : ℕ) (side : Side) → slice_get sides k ≡ Some side → ascending 0 (split_form side) ≡ true) → IsKind (split_term sides) split_form_at split_bound_at
  splits_kind ascends = record { is = is; found = found; base = base; told = told; coefficients = λ i. coefficients i (way_get sides i) refl; ascends = λ i. ascend i (way_get sides i) refl }
    where
      is : (i : Item) (t : Weighted) → split_term sides i ≡ Some t → t ≡ record { weight = i.weight; form = taken_form (way_get sides i.index); bound = t.bound }
      is i t e =
          let it = split_term_is i t e in
          let P : Option Side → Type 0 = λ o. t ≡ record { weight = i.weight; form = taken_form o; bound = t.bound } in
          let R : Weighted → Type 0 = λ u. u ≡ record { weight = i.weight; form = side_form it.side; bound = u.bound } in
          subst P (sym it.at) (subst R it.is refl)

      found : (i : Item) (t : Weighted) → split_term sides i ≡ Some t → IfOk (split_bound i.weight (way_get sides i.index)) (λ o. o ≡ Some t.bound)
      found i t e =
          let it = split_term_is i t e in
          let P : Option Side → Type 0 = λ s. IfOk (split_bound i.weight s) (λ o. o ≡ Some t.bound) in
          let R : Bool → Type 0 = λ b. IfOk (if b then taken_bound it.side else Ok None) (λ o. o ≡ Some t.bound) in
          subst P (sym it.at) (subst R (sym it.positive) (if_ok (taken_bound it.side) (Some (side_bound it.side)) (Some t.bound) (taken_ok it.side) (ap (λ (u : Weighted). Some u.bound) it.is)))

      base : (i : Item) (t : Weighted) → split_term sides i ≡ Some t → IsNodeBase p ds sides t.bound
      base i t e =
          let it = split_term_is i t e in
          let P : Rational → Type 0 = IsNodeBase p ds sides in
          subst P (ap (λ (u : Weighted). u.bound) it.is) (side_bound_base p ds sides i.index it.side it.at)

      told : (i : Item) → Told (node_numbers p ds sides) (split_bound i.weight (way_get sides i.index))
      told i = go (way_get sides i.index) refl
        where
          pick : (s : Side) (b : Bool) → Told (node_numbers p ds sides) (taken_bound s) → Told (node_numbers p ds sides) (if b then taken_bound s else Ok None)
          pick s true h = h
          pick s false h = tt

          go : (o : Option Side) → way_get sides i.index ≡ o → Told (node_numbers p ds sides) (split_bound i.weight o)
          go None e = tt
          go (Some s) e = pick s (is_less zero_ℚ i.weight) (side_told p ds sides i.index s e)

      coefficients : (i : ℕ) (o : Option Side) → way_get sides i ≡ o → AreCoefficients p ds sides (taken_form o)
      coefficients i None e = tt
      coefficients i (Some s) e = side_coefficients p ds sides i s e

      ascend : (i : ℕ) (o : Option Side) → way_get sides i ≡ o → ascending 0 (taken_form o) ≡ true
      ascend i None e = refl
      ascend i (Some s) e = let place = way_place sides i s e in side_ascends s (ascends place.0 s place.1)

  -- ---- all that a leaf's test does

  -- the terms of weights, kind by kind
  record IsParted (w : Weights) (all : List Weighted) : Type 0 where
    rows : List Weighted
    columns : List Weighted
    derived : List Weighted
    splits : List Weighted
    are_rows : AreTerms (row_term p) w.rows rows
    are_columns : AreTerms (column_term p []) w.columns columns
    are_derived : AreTerms (derived_term ds) w.derived derived
    are_splits : AreTerms (split_term sides) w.splits splits
    whole : all ≡ rows ++ (columns ++ (derived ++ splits))

  parted : (w : Weights) (all : List Weighted) → terms p ds [] sides w ≡ Some all → IsParted w all
  parted w all e =
      let splits : Option (List Weighted) = gathered (split_term sides) w.splits (Some []) in
      let derived = gathered (derived_term ds) w.derived splits in
      let first = begins (row_term p) w.rows (gathered (column_term p []) w.columns derived) all e in
      let second = begins (column_term p []) w.columns derived first.us first.more in
      let third = begins (derived_term ds) w.derived splits second.us second.more in
      let fourth = begins (split_term sides) w.splits (Some []) third.us third.more in
      let last : third.us ≡ fourth.ts = fourth.whole ∙ ap (λ (us : List Weighted). fourth.ts ++ us) (sym (same_Some [] fourth.us fourth.more)) ∙ append-nil fourth.ts in
      record {
        rows = first.ts;
        columns = second.ts;
        derived = third.ts;
        splits = fourth.ts;
        are_rows = first.terms;
        are_columns = second.terms;
        are_derived = third.terms;
        are_splits = fourth.terms;
        whole = first.whole ∙ ap (λ (us : List Weighted). first.ts ++ us) (second.whole ∙ ap (λ (us : List Weighted). second.ts ++ us) (third.whole ∙ ap (λ (us : List Weighted). third.ts ++ us) last));
      }

  -- the terms are there where the bounds are
  some_terms : (o : Option (List Weighted)) → true ≡ is_some o → (all : List Weighted) × (o ≡ Some all)
  some_terms (Some all) e = (all, refl)
  some_terms None e = absurd cc

  forms_told : (f : ℕ → List Product) (wanted : ℕ → Rational) (j : ℕ) (cs : List Column) → ((j : ℕ) → Told (node_numbers p ds sides) (with_products zero_ℚ (f j))) → Told (node_numbers p ds sides) (are_forms f wanted j cs)
  forms_told f wanted j [] h = tt
  forms_told f wanted j (c ∷ cs) h =
      next_told (node_numbers p ds sides) (with_products zero_ℚ (f j)) (λ v. cond (is_same v (wanted j)) (are_forms f wanted (j + 1) cs) (Ok false)) (h j)
      (λ v. cond_told (node_numbers p ds sides) (is_same v (wanted j)) (are_forms f wanted (j + 1) cs) (Ok false) (forms_told f wanted (j + 1) cs h) tt)

  -- all weights are base numbers
  record AreBaseWeights (w : Weights) : Type 0 where
    rows : AllWeights (IsNodeBase p ds sides) w.rows
    columns : AllWeights (IsNodeBase p ds sides) w.columns
    derived : AllWeights (IsNodeBase p ds sides) w.derived
    splits : AllWeights (IsNodeBase p ds sides) w.splits

  module _ (forms : AreFormsAscending p ds sides) (w : Weights) (base : AreBaseWeights w) where
    all_there_told : Told (node_numbers p ds sides) (all_there (node_setting p ds sides) w)
    all_there_told =
        also_told (node_numbers p ds sides) (are_there row_bound_at w.rows) _ (there_told (row_term p) row_form_at row_bound_at (rows_kind forms.rows) w.rows)
        (λ e. also_told (node_numbers p ds sides) (are_there column_bound_at w.columns) _ (there_told (column_term p []) unit_form_at column_bound_at columns_kind w.columns)
        (λ f. also_told (node_numbers p ds sides) (are_there derived_bound_at w.derived) _ (there_told (derived_term ds) derived_form_at derived_bound_at (deriveds_kind forms.derived) w.derived)
        (λ g. there_told (split_term sides) split_form_at split_bound_at (splits_kind forms.splits) w.splits)))

    coefficients_thin : (all : List Weighted) (j : ℕ) → IsParted w all → Thinned (weight_products (node_setting p ds sides) w j) (map (at_column j) all)
    coefficients_thin all j parts =
        let rows = item_products row_form_at w.rows j in
        let columns = item_products unit_form_at w.columns j in
        let derived = item_products derived_form_at w.derived j in
        let splits = item_products split_form_at w.splits j in
        let f : Weighted → Rational = at_column j in
        let P : List Rational → Type 0 = λ ns. Thinned (rows ++ (columns ++ (derived ++ splits))) ns in
        subst P (sym (four_parts f all parts.rows parts.columns parts.derived parts.splits parts.whole))
        (thinned-append (map f parts.rows) (map f parts.columns ++ (map f parts.derived ++ map f parts.splits)) rows (columns ++ (derived ++ splits)) (items_thin (row_term p) row_form_at row_bound_at (rows_kind forms.rows) w.rows parts.rows j parts.are_rows)
        (thinned-append (map f parts.columns) (map f parts.derived ++ map f parts.splits) columns (derived ++ splits) (items_thin (column_term p []) unit_form_at column_bound_at columns_kind w.columns parts.columns j parts.are_columns)
        (thinned-append (map f parts.derived) (map f parts.splits) derived splits (items_thin (derived_term ds) derived_form_at derived_bound_at (deriveds_kind forms.derived) w.derived parts.derived j parts.are_derived)
        (items_thin (split_term sides) split_form_at split_bound_at (splits_kind forms.splits) w.splits parts.splits j parts.are_splits))))

    coefficients_base : (j : ℕ) → AreBase (node_numbers p ds sides) (weight_products (node_setting p ds sides) w j)
    coefficients_base j =
        let rows = item_products row_form_at w.rows j in
        let columns = item_products unit_form_at w.columns j in
        let derived = item_products derived_form_at w.derived j in
        let splits = item_products split_form_at w.splits j in
        base-append (node_numbers p ds sides) rows (columns ++ (derived ++ splits)) (items_base (row_term p) row_form_at row_bound_at (rows_kind forms.rows) w.rows j base.rows)
        (base-append (node_numbers p ds sides) columns (derived ++ splits) (items_base (column_term p []) unit_form_at column_bound_at columns_kind w.columns j base.columns)
        (base-append (node_numbers p ds sides) derived splits (items_base (derived_term ds) derived_form_at derived_bound_at (deriveds_kind forms.derived) w.derived j base.derived)
        (items_base (split_term sides) split_form_at split_bound_at (splits_kind forms.splits) w.splits j base.splits)))

    bound_sum_told : (all : List Weighted) → IsParted w all → IsNodeProducts p ds sides (map at_bound all) → Told (node_numbers p ds sides) (bound_sum (node_setting p ds sides) zero_ℚ w)
    bound_sum_told all parts h =
        let ns : Numbers = node_numbers p ds sides in
        let rows : List Rational = map at_bound parts.rows in
        let columns : List Rational = map at_bound parts.columns in
        let derived : List Rational = map at_bound parts.derived in
        let splits : List Rational = map at_bound parts.splits in
        let whole : map at_bound all ≡ rows ++ (columns ++ (derived ++ splits)) = four_parts at_bound all parts.rows parts.columns parts.derived parts.splits parts.whole in
        let third : map at_bound all ≡ (rows ++ columns) ++ (derived ++ splits) = whole ∙ sym (append-append rows columns (derived ++ splits)) in
        let fourth : map at_bound all ≡ ((rows ++ columns) ++ derived) ++ (splits ++ []) = third ∙ sym (append-append (rows ++ columns) derived splits) ∙ ap (λ (xs : List Rational). ((rows ++ columns) ++ derived) ++ xs) (sym (append-nil splits)) in
        then_told ns (with_bounds row_bound_at zero_ℚ w.rows) (λ r. and_then (with_bounds column_bound_at r w.columns) (λ c. and_then (with_bounds derived_bound_at c w.derived) (λ d. with_bounds split_bound_at d w.splits))) (λ r. r ≡ sum_onto zero_ℚ rows)
        (bounds_told (row_term p) row_form_at row_bound_at (rows_kind forms.rows) (map at_bound all) h w.rows parts.rows parts.are_rows base.rows [] (columns ++ (derived ++ splits)) whole zero_ℚ refl)
        (bounds_sum (row_term p) row_form_at row_bound_at (rows_kind forms.rows) w.rows parts.rows parts.are_rows zero_ℚ)
        (λ r er. then_told ns (with_bounds column_bound_at r w.columns) (λ c. and_then (with_bounds derived_bound_at c w.derived) (λ d. with_bounds split_bound_at d w.splits)) (λ c. c ≡ sum_onto r columns)
        (bounds_told (column_term p []) unit_form_at column_bound_at columns_kind (map at_bound all) h w.columns parts.columns parts.are_columns base.columns rows (derived ++ splits) whole r er)
        (bounds_sum (column_term p []) unit_form_at column_bound_at columns_kind w.columns parts.columns parts.are_columns r)
        (λ c ec.
        (let done : c ≡ sum_onto zero_ℚ (rows ++ columns) = ec ∙ ap (λ (s : Rational). sum_onto s columns) er ∙ sym (sum-append zero_ℚ rows columns) in
        then_told ns (with_bounds derived_bound_at c w.derived) (λ d. with_bounds split_bound_at d w.splits) (λ d. d ≡ sum_onto c derived)
        (bounds_told (derived_term ds) derived_form_at derived_bound_at (deriveds_kind forms.derived) (map at_bound all) h w.derived parts.derived parts.are_derived base.derived (rows ++ columns) splits third c done)
        (bounds_sum (derived_term ds) derived_form_at derived_bound_at (deriveds_kind forms.derived) w.derived parts.derived parts.are_derived c)
        (λ d ed. bounds_told (split_term sides) split_form_at split_bound_at (splits_kind forms.splits) (map at_bound all) h w.splits parts.splits parts.are_splits base.splits ((rows ++ columns) ++ derived) [] fourth d
        (ed ∙ ap (λ (s : Rational). sum_onto s derived) done ∙ sym (sum-append zero_ℚ (rows ++ columns) derived))))))

    are_all : all_there (node_setting p ds sides) w ≡ Ok true → true ≡ is_some (terms p ds [] sides w)
    are_all e = let P : Result Bool NoFit → Type 0 = λ r. IfOk r (λ b. b ≡ is_some (terms p ds [] sides w)) in subst P e (all_there_ok (node_setting p ds sides) w)

    tested_told : (wanted : ℕ → Rational) (enough : Rational → Bool) → ((all : List Weighted) → terms p ds [] sides w ≡ Some all → (j : ℕ) → IsNodeProducts p ds sides (map (at_column j) all)) → ((all : List Weighted) → terms p ds [] sides w ≡ Some all → IsNodeProducts p ds sides (map at_bound all))
        → Told (node_numbers p ds sides) (shown_answer (node_setting p ds sides) w wanted enough)
    tested_told wanted enough along_coefficients along_bounds =
        also_told (node_numbers p ds sides) (all_there (node_setting p ds sides) w) _ all_there_told (λ there. rest (some_terms (terms p ds [] sides w) (are_all there)))
      where
        rest : (all : List Weighted) × (terms p ds [] sides w ≡ Some all) → Told (node_numbers p ds sides) (and_also (are_forms (weight_products (node_setting p ds sides) w) wanted 0 p.columns) (and_then (bound_sum (node_setting p ds sides) zero_ℚ w) (λ r. Ok (enough r))))
        rest found =
            let all = found.0 in
            let parts = parted w all found.1 in
            also_told (node_numbers p ds sides) _ _
            (forms_told (weight_products (node_setting p ds sides) w) wanted 0 p.columns
            (λ j. all_told (node_numbers p ds sides) (map (at_column j) all) (along_coefficients all found.1 j) (weight_products (node_setting p ds sides) w j) (coefficients_thin all j parts) (coefficients_base j)))
            (λ e. next_told (node_numbers p ds sides) (bound_sum (node_setting p ds sides) zero_ℚ w) (λ r. Ok (enough r)) (bound_sum_told all parts (along_bounds all found.1)) (λ r. tt))

  -- ---- weights that name splits

  -- the weights that the simplex method gives name none
  none_own : (w : Weights) → IsNodeWeights p ds sides w → w.splits ≡ []
  none_own w (IsNodeWeights.of_objective b before d run dictionary e) = ap (λ (v : Weights). v.splits) e
  none_own w (IsNodeWeights.of_row b before d r run dictionary basic (inl e)) = ap (λ (v : Weights). v.splits) e
  none_own w (IsNodeWeights.of_row b before d r run dictionary basic (inr e)) = ap (λ (v : Weights). v.splits) e
  none_own w (IsNodeWeights.of_contradiction v h e) = ap (λ (v : Weights). v.splits) e

  named_base : (w : Weights) → w.splits ≡ [] → AreNodeWeights p ds sides w → AreBaseWeights (named p sides w)
  named_base w none base = record {
    rows = base.rows;
    columns = kept_base (IsNodeBase p ds sides) p sides w.columns base.columns;
    derived = base.derived;
    splits = (let P : List Item → Type 0 = λ is. AllWeights (IsNodeBase p ds sides) (with_splits p sides w.columns is) in subst P (sym none) (splits_base (IsNodeBase p ds sides) p sides w.columns base.columns base.minus_columns));
  }

  pub shown_told : AreFormsAscending p ds sides → (w : Weights) → AreNodeWeights p ds sides w → (wanted : ℕ → Rational) (enough : Rational → Bool) → IsNodeWeights p ds sides w → Told (node_numbers p ds sides) (shown_answer (node_setting p ds sides) (named p sides w) wanted enough)
  shown_told forms w base wanted enough weights =
      tested_told forms (named p sides w) (named_base w (none_own w weights) base) wanted enough
      (λ all e j. IsNodeProducts.along_coefficients w all j weights e refl)
      (λ all e. IsNodeProducts.along_bounds w all weights e refl)
