-- Forms where columns come to stand before the others stay in order.
use Rattle.std.proofs.Common.{◌≡◌, ◌∙◌, ◌<◌, ◌≤◌, ℕ, zero, suc, ◌+◌, true, false, List, [], ◌∷◌, ◌++◌, length, map, slice_get, refl, sym, ap, subst, arith}
use Rattle.std.specs.List.{list_all, AllByRecursion}
use Rattle.std.proofs.lemmas.Bool.{and_parts, and_from, leb-true, le-leb, ltb-true, lt-ltb}
use Rattle.std.proofs.lemmas.List.{length-append}
use Rattle.rational.specs.Compare.{is_whole}
use Rattle.milp.specs.Form.{Entry}
use Rattle.milp.specs.Problem.{Column, Row, Problem}
use Rattle.verdicts.specs.Proves.{is_integer, is_whole_form}
use Rattle.instance.specs.WellFormed.{are_entries_from, are_entries}
use Rattle.row_columns.specs.Extended.{moved, moved_row, tying_form}
use Rattle.row_columns.specs.Extending.{form_columns, tying_rows}
use Rattle.row_columns.proofs.ScalingLemmas.{first_of}

entries_from_lower : (low least n : ℕ) (es : List Entry) → low ≤ least → are_entries_from least n es ≡ true → are_entries_from low n es ≡ true
entries_from_lower low least n [] le h = refl
entries_from_lower low least n (e ∷ es) le h =
    let first = first_of least n e es h in
    let above : least ≤ e.column = leb-true least e.column first.low in
    and_from _ _ (le-leb low e.column (omega arith)) (and_from _ _ first.high (and_from _ _ first.some first.rest))

moved_from : (count least n : ℕ) (es : List Entry) → are_entries_from least n es ≡ true → are_entries_from (count + least) (count + n) (moved count es) ≡ true
moved_from count least n [] h = refl
moved_from count least n (e ∷ es) h =
    let first = first_of least n e es h in
    let above : least ≤ e.column = leb-true least e.column first.low in
    let below : e.column < n = ltb-true e.column n first.high in
    let next : count + (e.column + 1) ≡ count + e.column + 1 = omega arith in
    let rest : are_entries_from (count + e.column + 1) (count + n) (moved count es) ≡ true = subst (λ k. are_entries_from k (count + n) (moved count es) ≡ true) next (moved_from count (e.column + 1) n es first.rest) in
    and_from _ _ (le-leb (count + least) (count + e.column) (omega arith)) (and_from _ _ (lt-ltb (count + e.column) (count + n) (omega arith)) (and_from _ _ first.some rest))

pub moved_entries : (count n size : ℕ) (es : List Entry) → size ≡ count + n → are_entries n es ≡ true → are_entries size (moved count es) ≡ true
moved_entries count n size es is h = ap (λ k. are_entries k (moved count es)) is ∙ entries_from_lower 0 (count + 0) (count + n) (moved count es) (omega arith) (moved_from count 0 n es h)

pub moved_rows_entries : (count n size : ℕ) (rows : List Row) → size ≡ count + n → list_all (λ (r : Row). are_entries n r.entries) rows ≡ true → list_all (λ (r : Row). are_entries size r.entries) (map (moved_row count) rows) ≡ true
moved_rows_entries count n size [] is h = refl
moved_rows_entries count n size (r ∷ rows) is h = let parts = and_parts _ _ h in and_from _ _ (moved_entries count n size r.entries is parts.0) (moved_rows_entries count n size rows is parts.1)

-- ---- a whole form is over the problem's columns

integer_within : (columns : List Column) (j : ℕ) → is_integer (slice_get columns j) ≡ true → j < length columns
integer_within [] j h = let e : false ≡ true = h in cc
integer_within (c ∷ columns) zero h = omega arith
integer_within (c ∷ columns) (suc j) h = let k = integer_within columns j h in omega (arith, k)

whole_within : (p : Problem) (least n : ℕ) (es : List Entry) → are_entries_from least n es ≡ true → is_whole_form p es ≡ true → are_entries_from least (length p.columns) es ≡ true
whole_within p least n [] h w = refl
whole_within p least n (e ∷ es) h w =
    let first = first_of least n e es h in
    let whole = and_parts _ _ w in
    let here = and_parts (is_whole e.coefficient) (is_integer (slice_get p.columns e.column)) whole.0 in
    and_from _ _ first.low (and_from _ _ (lt-ltb e.column (length p.columns) (integer_within p.columns e.column here.1)) (and_from _ _ first.some (whole_within p (e.column + 1) n es first.rest whole.1)))

tying_entries : (p : Problem) (count n size j : ℕ) (form : List Entry) → j < count → size ≡ count + length p.columns → are_entries n form ≡ true → is_whole_form p form ≡ true → are_entries size (tying_form count j form) ≡ true
tying_entries p count n size j form lt is h w =
    let behind : are_entries_from (j + 1) (count + length p.columns) (moved count form) ≡ true = entries_from_lower (j + 1) (count + 0) (count + length p.columns) (moved count form) (omega arith) (moved_from count 0 (length p.columns) form (whole_within p 0 n form h w)) in
    ap (λ k. are_entries k (tying_form count j form)) is ∙ and_from _ _ (le-leb 0 j (omega arith)) (and_from _ _ (lt-ltb j (count + length p.columns) (omega arith)) behind)

pub tying_rows_entries : (p : Problem) (prefix : List ℕ) (count n size j : ℕ) (forms : List (List Entry)) → j + length forms ≤ count → size ≡ count + length p.columns → AllByRecursion (λ form. are_entries n form ≡ true) forms → list_all (is_whole_form p) forms ≡ true → list_all (λ (r : Row). are_entries size r.entries) (tying_rows prefix count j forms) ≡ true
tying_rows_entries p prefix count n size j [] le is a w = refl
tying_rows_entries p prefix count n size j (form ∷ forms) le is a w =
    let parts = and_parts _ _ w in
    and_from _ _ (tying_entries p count n size j form (omega arith) is a.0 parts.0) (tying_rows_entries p prefix count n size (j + 1) forms (omega arith) is a.1 parts.1)

length-form_columns : (prefix : List ℕ) (j : ℕ) (forms : List (List Entry)) → length (form_columns prefix j forms) ≡ length forms
length-form_columns prefix j [] = refl
length-form_columns prefix j (form ∷ forms) = ap suc (length-form_columns prefix (j + 1) forms)

pub columns_size : (prefix : List ℕ) (forms : List (List Entry)) (columns all : List Column) (count : ℕ) → count ≡ length forms → all ≡ form_columns prefix 0 forms ++ columns → length all ≡ count + length columns
columns_size prefix forms columns all count is made = ap length made ∙ length-append (form_columns prefix 0 forms) columns ∙ ap (λ n. n + length columns) (length-form_columns prefix 0 forms ∙ sym is)
