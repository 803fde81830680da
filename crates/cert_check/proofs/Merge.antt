-- The products of a column's entries with the weights of their rows are those of the weights with their rows' entries.
use Rattle.std.proofs.Common.{◌≡◌, ◌∙◌, ℕ, suc, ◌+◌, ◌-◌, ◌*◌, ◌<◌, ◌≤◌, ◌==◌, nat_le, Bool, true, false, if◌then◌else◌, length, slice_get, get_or, drop, Result, Ok, Err, List, [], ◌∷◌, ◌++◌, append_assoc, refl, sym, ap, subst, arith}
use mathlib.Core.Path.{ap₂}
use Rattle.std.proofs.Math.Decide.{ℕ_discrete}
use Rattle.std.proofs.lemmas.Bool.{and_parts, eq-eqb, leb-true}
use Rattle.std.proofs.lemmas.List.Sums.{AllPass-from_list_all}
use Rattle.std.specs.List.{list_all}
use Rattle.rational.specs.Rational.{Rational, one_ℚ}
use Rattle.fraction.specs.declared.frac.NoFit.{NoFit}
use Rattle.milp.specs.Form.{Entry}
use Rattle.milp.specs.Problem.{Row}
use Rattle.instance.specs.Sums.{and_then, form_of}
use Rattle.instance.specs.WellFormed.{are_entries}
use Rattle.instance.specs.declared.by_column.ColumnEntry.{ColumnEntry}
use Rattle.instance.specs.ByColumn.{entries_in_form, entries_in_rows}
use Rattle.verdicts.specs.Certificate.{Item}
use Rattle.certificate.specs.Written.{rank_of, AreItemsFrom}
use Rattle.cert_check.specs.Setting.{Setting}
use Rattle.cert_check.specs.Sums.{products, item_products, form_at, with_products}
use Rattle.cert_check.specs.declared.kind.Kind.TheVariants.{OfColumn}
use Rattle.cert_check.specs.Lookup.{at_index, at_entries}
use Rattle.cert_check.specs.Parts.{ascending}
use Rattle.cert_check.proofs.Ascending.{entries_ascend}
use Rattle.cert_check.proofs.Products.{next, products_then}
use Rattle.cert_check.proofs.ItemOrder.{least_rank, greatest_rank, other, not_here, none_left}

here : (i : Item) (is : List Item) (index : ℕ) (factor : Rational) → i.index ≡ index → at_index (i ∷ is) index factor ≡ record { weight = i.weight; factor = factor } ∷ at_index is index factor
here i is index factor h = rw (eq-eqb i.index index h) refl

entries-append : (xs ys : List ColumnEntry) (items : List Item) → at_entries (xs ++ ys) items ≡ at_entries xs items ++ at_entries ys items
entries-append [] ys items = refl
entries-append (e ∷ xs) ys items = ap (λ ps. at_index items e.row e.coefficient ++ ps) (entries-append xs ys items) ∙ sym (append_assoc (at_index items e.row e.coefficient) (at_entries xs items) (at_entries ys items))

-- ---- a form has at most one entry of a column

data Entries (row : ℕ) (es : List Entry) (j : ℕ) : Type 0 where
  NoEntry : entries_in_form row es j ≡ [] → ((w : Rational) → products w es j ≡ []) → Entries row es j
  OneEntry : (c : Rational) → entries_in_form row es j ≡ record { row = row; coefficient = c } ∷ [] → ((w : Rational) → products w es j ≡ record { weight = w; factor = c } ∷ []) → Entries row es j

-- none in a form whose columns are all past it
none_in : (row least : ℕ) (es : List Entry) (j : ℕ) → ascending least es ≡ true → j < least → (entries_in_form row es j ≡ []) × ((w : Rational) → products w es j ≡ [])
none_in row least [] j h k = (refl, λ w. refl)
none_in row least (e ∷ es) j h k =
    let parts = and_parts (nat_le least e.column) (ascending (e.column + 1) es) h in
    let low : least ≤ e.column = leb-true least e.column parts.0 in
    let rest = none_in row (e.column + 1) es j parts.1 (omega arith) in
    let not_it : (e.column == j) ≡ false = other e.column j (λ q. absurd (omega arith)) in
    (rw not_it rest.0, λ w. rw not_it (rest.1 w))

at_most_one : (row least : ℕ) (es : List Entry) (j : ℕ) → ascending least es ≡ true → Entries row es j
at_most_one row least [] j h = NoEntry refl (λ w. refl)
at_most_one row least (e ∷ es) j h =
    let parts = and_parts (nat_le least e.column) (ascending (e.column + 1) es) h in
    elim (ℕ_discrete e.column j) [
      | yes q ↦
          let none = none_in row (e.column + 1) es j parts.1 (omega arith) in
          let it : (e.column == j) ≡ true = eq-eqb e.column j q in
          OneEntry e.coefficient (rw it (ap (λ xs. record { row = row; coefficient = e.coefficient } ∷ xs) none.0)) (λ w. rw it (ap (λ xs. record { weight = w; factor = e.coefficient } ∷ xs) (none.1 w)))
      | no d ↦
          let not_it : (e.column == j) ≡ false = other e.column j d in
          skip not_it (at_most_one row (e.column + 1) es j parts.1)
    ]
  where
    skip : (e.column == j) ≡ false → Entries row es j → Entries row (e ∷ es) j
    skip not_it (NoEntry a b) = NoEntry (rw not_it a) (λ w. rw not_it (b w))
    skip not_it (OneEntry c a b) = OneEntry c (rw not_it a) (λ w. rw not_it (b w))

-- ---- the weights after those of a row

later : ℕ → List Item → List Item
later row [] = []
later row (i ∷ is) = if i.index == row then later row is else i ∷ is

later_from : (row least : ℕ) (items : List Item) → 2 * row ≤ least → AreItemsFrom least items → AreItemsFrom (2 * (row + 1)) (later row items)
unfolding later
later_from row least [] low h = tt
later_from row least (i ∷ is) low h = elim (ℕ_discrete i.index row) [
  | yes q ↦ rw (eq-eqb i.index row q) (later_from row (rank_of i + 1) is (omega (arith, low, h.0)) h.2)
  | no d ↦ rw (other i.index row d) (omega (arith, low, h.0, greatest_rank i, least_rank i, d), h.1, h.2)
]

-- a later row's weights are among them
later_index : (row index : ℕ) (items : List Item) (factor : Rational) → row < index → at_index (later row items) index factor ≡ at_index items index factor
unfolding later
later_index row index [] factor h = refl
later_index row index (i ∷ is) factor h = elim (ℕ_discrete i.index row) [
  | yes q ↦ rw (eq-eqb i.index row q) (later_index row index is factor h ∙ sym (not_here i is index factor (λ k. absurd (omega (arith, h, q, k)))))
  | no d ↦ rw (other i.index row d) refl
]

later_form : (row next_row : ℕ) (es : List Entry) (j : ℕ) (items : List Item) → row < next_row → at_entries (entries_in_form next_row es j) (later row items) ≡ at_entries (entries_in_form next_row es j) items
later_form row next_row [] j items h = refl
later_form row next_row (e ∷ es) j items h = go (e.column == j) (later_form row next_row es j items h)
  where
    go : (t : Bool) → at_entries (entries_in_form next_row es j) (later row items) ≡ at_entries (entries_in_form next_row es j) items → at_entries (if t then record { row = next_row; coefficient = e.coefficient } ∷ entries_in_form next_row es j else entries_in_form next_row es j) (later row items) ≡ at_entries (if t then record { row = next_row; coefficient = e.coefficient } ∷ entries_in_form next_row es j else entries_in_form next_row es j) items
    go true k = ap₂ (λ a b. a ++ b) (later_index row next_row items e.coefficient h) k
    go false k = k

later_rows : (row next_row : ℕ) (rs : List Row) (j : ℕ) (items : List Item) → row < next_row → at_entries (entries_in_rows next_row rs j) (later row items) ≡ at_entries (entries_in_rows next_row rs j) items
later_rows row next_row [] j items h = refl
later_rows row next_row (r ∷ rs) j items h =
    entries-append (entries_in_form next_row r.entries j) (entries_in_rows (next_row + 1) rs j) (later row items)
    ∙ ap₂ (λ a b. a ++ b) (later_form row next_row r.entries j items h) (later_rows row (next_row + 1) rs j items (omega arith))
    ∙ sym (entries-append (entries_in_form next_row r.entries j) (entries_in_rows (next_row + 1) rs j) items)

-- ---- one row's weights, and then the others

one_row : (f : ℕ → List Entry) (row least : ℕ) (items : List Item) (j : ℕ) (c : Rational) → 2 * row ≤ least → AreItemsFrom least items → ((w : Rational) → products w (f row) j ≡ record { weight = w; factor = c } ∷ []) → at_index items row c ++ item_products f (later row items) j ≡ item_products f items j
unfolding later
one_row f row least [] j c low h one = refl
one_row f row least (i ∷ is) j c low h one = elim (ℕ_discrete i.index row) [
  | yes q ↦ rw (eq-eqb i.index row q) (ap (λ ps. record { weight = i.weight; factor = c } ∷ ps) (one_row f row (rank_of i + 1) is j c (omega (arith, low, h.0)) h.2 one) ∙ ap (λ ps. ps ++ item_products f is j) (sym (ap (λ n. products i.weight (f n) j) q ∙ one i.weight)))
  | no d ↦ rw (other i.index row d) (ap (λ ps. ps ++ item_products f (i ∷ is) j) (none_left (rank_of i + 1) is row c h.2 (omega (arith, low, h.0, greatest_rank i, least_rank i, d))))
]

no_row : (f : ℕ → List Entry) (row : ℕ) (items : List Item) (j : ℕ) → ((w : Rational) → products w (f row) j ≡ []) → item_products f (later row items) j ≡ item_products f items j
unfolding later
no_row f row [] j none = refl
no_row f row (i ∷ is) j none = elim (ℕ_discrete i.index row) [
  | yes q ↦ rw (eq-eqb i.index row q) (no_row f row is j none ∙ ap (λ ps. ps ++ item_products f is j) (sym (ap (λ n. products i.weight (f n) j) q ∙ none i.weight)))
  | no d ↦ rw (other i.index row d) refl
]

-- two tables of forms that are alike from a row on
alike : (f g : ℕ → List Entry) (row least : ℕ) (items : List Item) (j : ℕ) → 2 * row ≤ least → AreItemsFrom least items → ((i : ℕ) → row ≤ i → f i ≡ g i) → item_products f items j ≡ item_products g items j
alike f g row least [] j low h same = refl
alike f g row least (i ∷ is) j low h same = ap₂ (λ a b. a ++ b) (ap (λ es. products i.weight es j) (same i.index (omega (arith, low, h.0, greatest_rank i)))) (alike f g row (rank_of i + 1) is j (omega (arith, low, h.0)) h.2 same)

nothing : (f : ℕ → List Entry) (items : List Item) (j : ℕ) → ((i : ℕ) → f i ≡ []) → item_products f items j ≡ []
nothing f [] j h = refl
nothing f (i ∷ is) j h = ap₂ (λ a b. a ++ b) (ap (λ es. products i.weight es j) (h i.index)) (nothing f is j h)

-- the form of a row, where the first is `first`
form_from : ℕ → List Row → ℕ → List Entry
form_from first rows i = form_of (slice_get rows (i - first))

AllAscend : List Row → Type 0
AllAscend [] = Unit {0}
AllAscend (r ∷ rs) = (ascending 0 r.entries ≡ true) × AllAscend rs

merged : (first : ℕ) (rows : List Row) (items : List Item) (j : ℕ) → AllAscend rows → AreItemsFrom (2 * first) items → at_entries (entries_in_rows first rows j) items ≡ item_products (form_from first rows) items j
unfolding AllAscend form_from
merged first [] items j h k = sym (nothing (λ i. form_of (slice_get [] (i - first))) items j (λ i. refl))
merged first (r ∷ rs) items j h k = at_first (at_most_one first 0 r.entries j h.0) (merged (first + 1) rs (later first items) j h.1 (later_from first (2 * first) items (omega arith) k))
  where
    f : ℕ → List Entry
    f i = form_of (slice_get (r ∷ rs) (i - first))

    g : ℕ → List Entry
    g i = form_of (slice_get rs (i - (first + 1)))

    zeroth : f first ≡ r.entries
    zeroth = let none : first - first ≡ 0 = omega arith in ap (λ n. form_of (slice_get (r ∷ rs) n)) none

    others : (i : ℕ) → first + 1 ≤ i → g i ≡ f i
    others i e = let one : i - first ≡ suc (i - (first + 1)) = omega arith in sym (ap (λ n. form_of (slice_get (r ∷ rs) n)) one)

    rest : at_entries (entries_in_rows (first + 1) rs j) (later first items) ≡ item_products g (later first items) j → at_entries (entries_in_rows (first + 1) rs j) items ≡ item_products f (later first items) j
    rest ih = sym (later_rows first (first + 1) rs j items (omega arith)) ∙ ih ∙ alike g f (first + 1) (2 * (first + 1)) (later first items) j (omega arith) (later_from first (2 * first) items (omega arith) k) others

    at_first : Entries first r.entries j → at_entries (entries_in_rows (first + 1) rs j) (later first items) ≡ item_products g (later first items) j → at_entries (entries_in_form first r.entries j ++ entries_in_rows (first + 1) rs j) items ≡ item_products f items j
    at_first (NoEntry a b) ih = ap (λ xs. at_entries (xs ++ entries_in_rows (first + 1) rs j) items) a ∙ rest ih ∙ no_row f first items j (λ w. ap (λ es. products w es j) zeroth ∙ b w)
    at_first (OneEntry c a b) ih = ap (λ xs. at_entries (xs ++ entries_in_rows (first + 1) rs j) items) a ∙ ap (λ ps. at_index items first c ++ ps) (rest ih) ∙ one_row f first (2 * first) items j c (omega arith) k (λ w. ap (λ es. products w es j) zeroth ∙ b w)

pub by_column : (n : ℕ) (rows : List Row) (items : List Item) (j : ℕ) → list_all (λ (r : Row). are_entries n r.entries) rows ≡ true → AreItemsFrom 0 items → at_entries (entries_in_rows 0 rows j) items ≡ item_products (λ i. form_of (slice_get rows i)) items j
unfolding form_from AllAscend
by_column n rows items j h k = merged 0 rows items j (all rows h) k ∙ alike (λ i. form_of (slice_get rows (i - 0))) (λ i. form_of (slice_get rows i)) 0 0 items j (omega arith) k (λ i e. let same : i - 0 ≡ i = omega arith in ap (λ m. form_of (slice_get rows m)) same)
  where
    all : (rows : List Row) → list_all (λ (r : Row). are_entries n r.entries) rows ≡ true → AllAscend rows
    all [] h = tt
    all (r ∷ rs) h = let parts = and_parts _ _ h in (entries_ascend 0 n r.entries parts.0, all rs parts.1)

-- ---- the order of one row

pub row_ascends : (n : ℕ) (rows all : List Row) (i : ℕ) (r : Row) → list_all (λ (r : Row). are_entries n r.entries) rows ≡ true → all ≡ rows → i < length all → r ≡ get_or all i r → ascending 0 r.entries ≡ true
row_ascends n rows all i r formed same there is =
    let all_formed = subst (λ (rs : List Row). list_all (λ (r : Row). are_entries n r.entries) rs ≡ true) (sym same) formed in
    entries_ascend 0 n r.entries (subst (λ (s : Row). are_entries n s.entries ≡ true) (sym is) (AllPass-from_list_all _ all all_formed i r there))

-- ---- the loop over a column's entries

entry_more : (entries : List ColumnEntry) (i : ℕ) (e : ColumnEntry) (items : List Item) (total : Rational) (r all : Result Rational NoFit) → i < length entries → e ≡ get_or entries i e → with_products total (at_entries (drop i entries) items) ≡ all → r ≡ with_products total (at_index items e.row e.coefficient) → and_then r (λ t. with_products t (at_entries (drop (i + 1) entries) items)) ≡ all
entry_more entries i e items total r all h is inv same =
    let start : with_products total (at_index items e.row e.coefficient ++ at_entries (drop (i + 1) entries) items) ≡ all = rw (next entries i e h is) at inv in
    ap (λ r. and_then r (λ t. with_products t (at_entries (drop (i + 1) entries) items))) same ∙ sym (products_then total (at_index items e.row e.coefficient) (at_entries (drop (i + 1) entries) items)) ∙ start

pub entry_ok : (entries : List ColumnEntry) (i : ℕ) (e : ColumnEntry) (items : List Item) (total t : Rational) (all : Result Rational NoFit) → i < length entries → e ≡ get_or entries i e → with_products total (at_entries (drop i entries) items) ≡ all → Ok t ≡ with_products total (at_index items e.row e.coefficient) → with_products t (at_entries (drop (i + 1) entries) items) ≡ all
entry_ok entries i e items total t all h is inv same = entry_more entries i e items total (Ok t) all h is inv same

pub entry_fault : (entries : List ColumnEntry) (i : ℕ) (e : ColumnEntry) (items : List Item) (total : Rational) (d : NoFit) (all : Result Rational NoFit) → i < length entries → e ≡ get_or entries i e → with_products total (at_entries (drop i entries) items) ≡ all → Err d ≡ with_products total (at_index items e.row e.coefficient) → Err d ≡ all
entry_fault entries i e items total d all h is inv same = entry_more entries i e items total (Err d) all h is inv same

-- ---- the weights of one column

pub units : (s : Setting) (items : List Item) (j : ℕ) → at_index items j one_ℚ ≡ item_products (form_at s OfColumn) items j
units s [] j = refl
units s (i ∷ is) j = go (i.index == j) (units s is j)
  where
    go : (t : Bool) → at_index is j one_ℚ ≡ item_products (form_at s OfColumn) is j → (if t then record { weight = i.weight; factor = one_ℚ } ∷ at_index is j one_ℚ else at_index is j one_ℚ) ≡ (if t then record { weight = i.weight; factor = one_ℚ } ∷ [] else []) ++ item_products (form_at s OfColumn) is j
    go true h = ap (λ ps. record { weight = i.weight; factor = one_ℚ } ∷ ps) h
    go false h = h
