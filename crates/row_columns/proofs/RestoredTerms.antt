-- A leaf's weights, restored, have the sums at each point that they had at the point with the forms' values.
use Rattle.std.proofs.Common.{◌≡◌, ◌∙◌, ℕ, ◌-◌, ◌<◌, ◌≤◌, ◌==◌, List, [], ◌∷◌, map, Bool, true, false, refl, sym, ap, Option, Some, None, IfSome, slice_get, option_and_then, length, if◌then◌else◌}
use Rattle.std.specs.Prelude.{negsuc, nat_lt, option_map, get_or}
use Rattle.std.specs.List.{AllByRecursion}
use Rattle.std.proofs.lemmas.Bool.{ltb-true, ltb-false}
use Rattle.std.proofs.lemmas.List.{length-map}
use Rattle.rational.specs.Rational.{Rational, ◌*ℚ◌, zero_ℚ, whole}
use Rattle.rational.specs.Compare.{is_less}
use Rattle.rational.proofs.Laws as Q
use Rattle.milp.specs.Form.{Entry, value_at}
use Rattle.milp.specs.Problem.{Column, Row, Problem}
use Rattle.certificate.specs.Written.{column_form, split_column}
use Rattle.verdicts.specs.WeightedSums.{scaled, Weighted}
use Rattle.verdicts.specs.Certificate.{Item, Weights, Split, Side, Low, High}
use Rattle.verdicts.specs.Proves.{side_form, side_bound, way_get, term, bound_used, lower_under, upper_under, row_term, column_term, derived_term, split_term, joined, gathered, terms}
use Rattle.verdicts.specs.SplitRows.{split_of, first_items}
use Rattle.verdicts.proofs.Laws.{value-scaled}
use Rattle.row_columns.specs.Extended.{moved, moved_row, IsFormColumn, IsExtended}
use Rattle.row_columns.specs.Restored.{restored_split, items_behind, restored_weights}
use Rattle.row_columns.proofs.FormValues.{with_values, column_value, column_behind, moved_value, tied_value}
use Rattle.row_columns.proofs.ExtendedParts.{Ties, column_of_form, column_of_problem, row_of_problem, row_of_form}
use Rattle.row_columns.proofs.RestoredSums.{AddsNothing, TermRestores, Restores, joined_restored, joined_nothing, gathered_restored, same_term}

-- ---- rows

row_before : (p q : Problem) (forms : List (List Entry)) → IsExtended p forms q → (i : Item) → i.index < length p.rows → TermRestores (with_values forms) (row_term q i) (row_term p i)
row_before p q forms h i k = rw (row_of_problem p q forms h i.index k) (go (slice_get p.rows i.index))
  where
    go : (o : Option Row) → TermRestores (with_values forms) (option_and_then (λ (r : Row). term i.weight r.entries (bound_used i.weight r.lower r.upper)) (option_map (moved_row (length forms)) o)) (option_and_then (λ (r : Row). term i.weight r.entries (bound_used i.weight r.lower r.upper)) o)
    go None = tt
    go (Some r) = same_term (with_values forms) i.weight (moved (length forms) r.entries) r.entries (bound_used i.weight r.lower r.upper) (λ y. sym (moved_value forms y r.entries))

row_behind : (p q : Problem) (forms : List (List Entry)) → IsExtended p forms q → (i : Item) → length p.rows ≤ i.index → IfSome (row_term q i) (AddsNothing (with_values forms))
row_behind p q forms h i k = go (slice_get q.rows i.index) (row_of_form p q forms h i.index k)
  where
    nothing : (form : List Entry) (b : Bool) → ((y : ℕ → Rational) → value_at (with_values forms y) form ≡ zero_ℚ) → IfSome (term i.weight form (if b then Some zero_ℚ else Some zero_ℚ)) (AddsNothing (with_values forms))
    nothing form true e = record { value = λ y. ap (λ v. i.weight *ℚ v) (e y) ∙ Q.mul-zero i.weight; bound = Q.mul-zero i.weight }
    nothing form false e = record { value = λ y. ap (λ v. i.weight *ℚ v) (e y) ∙ Q.mul-zero i.weight; bound = Q.mul-zero i.weight }

    go : (o : Option Row) → IfSome o (λ r. Ties forms (i.index - length p.rows) r) → IfSome (option_and_then (λ (r : Row). term i.weight r.entries (bound_used i.weight r.lower r.upper)) o) (AddsNothing (with_values forms))
    go None t = tt
    go (Some r) t =
        let j = i.index - length p.rows in
        rw (t.tying.lower, t.tying.upper) (nothing r.entries (is_less zero_ℚ i.weight) (λ y. ap (value_at (with_values forms y)) t.tying.entries ∙ tied_value forms y j (get_or forms j []) t.within refl))

rows_restored : (p q : Problem) (forms : List (List Entry)) → IsExtended p forms q → (is : List Item) (o r : Option (List Weighted)) → Restores (with_values forms) o r → Restores (with_values forms) (gathered (row_term q) is o) (gathered (row_term p) (first_items (length p.rows) is) r)
rows_restored p q forms h [] o r k = k
rows_restored p q forms h (i ∷ is) o r k = go (nat_lt i.index (length p.rows)) refl (rows_restored p q forms h is o r k)
  where
    go : (b : Bool) → nat_lt i.index (length p.rows) ≡ b → Restores (with_values forms) (gathered (row_term q) is o) (gathered (row_term p) (first_items (length p.rows) is) r) → Restores (with_values forms) (joined (row_term q i) (gathered (row_term q) is o)) (gathered (row_term p) (if b then i ∷ first_items (length p.rows) is else first_items (length p.rows) is) r)
    go true e t = joined_restored (with_values forms) (row_term q i) (row_term p i) _ _ (row_before p q forms h i (ltb-true _ _ e)) t
    go false e t = joined_nothing (with_values forms) (row_term q i) _ _ (row_behind p q forms h i (ltb-false _ _ e)) t

-- ---- columns

abbrev bound_of : Problem → Item → Option Rational
bound_of p i = bound_used i.weight (lower_under p [] i.index) (upper_under p [] i.index)

column_before : (p q : Problem) (forms : List (List Entry)) → IsExtended p forms q → (i : Item) → i.index < length forms → column_term q [] i ≡ None
column_before p q forms h i k = go (slice_get q.columns i.index) (is_less zero_ℚ i.weight) (column_of_form p q forms h i.index k)
  where
    go : (o : Option Column) (b : Bool) → IfSome o (λ c. IsFormColumn c) → term i.weight (column_form i.index) (if b then option_and_then (λ (c : Column). c.lower) o else option_and_then (λ (c : Column). c.upper) o) ≡ None
    go None true t = refl
    go None false t = refl
    go (Some c) true t = let e = t.lower in rw e refl
    go (Some c) false t = let e = t.upper in rw e refl

column_later : (p q : Problem) (forms : List (List Entry)) → IsExtended p forms q → (i : Item) → length forms ≤ i.index → TermRestores (with_values forms) (column_term q [] i) (column_term p [] (record { index = i.index - length forms; weight = i.weight }))
column_later p q forms h i k =
    let there : Item = record { index = i.index - length forms; weight = i.weight } in
    rw (column_of_problem p q forms h i.index k)
    (same_term (with_values forms) i.weight (column_form i.index) (column_form (i.index - length forms)) (bound_of p there) (λ y. sym (column_value (with_values forms y) i.index ∙ ap (value_at y) (column_behind forms i.index k))))

columns_restored : (p q : Problem) (forms : List (List Entry)) → IsExtended p forms q → (is : List Item) (o r : Option (List Weighted)) → Restores (with_values forms) o r → Restores (with_values forms) (gathered (column_term q []) is o) (gathered (column_term p []) (items_behind (length forms) is) r)
columns_restored p q forms h [] o r k = k
columns_restored p q forms h (i ∷ is) o r k = go (nat_lt i.index (length forms)) refl (columns_restored p q forms h is o r k)
  where
    go : (b : Bool) → nat_lt i.index (length forms) ≡ b → Restores (with_values forms) (gathered (column_term q []) is o) (gathered (column_term p []) (items_behind (length forms) is) r) → Restores (with_values forms) (joined (column_term q [] i) (gathered (column_term q []) is o)) (gathered (column_term p []) (if b then items_behind (length forms) is else record { index = i.index - length forms; weight = i.weight } ∷ items_behind (length forms) is) r)
    go true e t = rw (column_before p q forms h i (ltb-true _ _ e)) tt
    go false e t = joined_restored (with_values forms) (column_term q [] i) (column_term p [] (record { index = i.index - length forms; weight = i.weight })) _ _ (column_later p q forms h i (ltb-false _ _ e)) t

-- ---- splits

-- a split of one column
abbrev pub IsOfColumn : Side → Type 0
IsOfColumn s = (split_of s).form ≡ column_form (split_column (split_of s))

abbrev pub restored_side : List (List Entry) → Side → Side
restored_side forms (Low s) = Low (restored_split forms s)
restored_side forms (High s) = High (restored_split forms s)

split_value : (forms : List (List Entry)) (s : Split) → s.form ≡ column_form (split_column s) → (y : ℕ → Rational) → value_at y (restored_split forms s).form ≡ value_at (with_values forms y) s.form
split_value forms s h y = sym (ap (value_at (with_values forms y)) h ∙ column_value (with_values forms y) (split_column s))

side_term_restored : (forms : List (List Entry)) (w : Rational) (s : Side) → IsOfColumn s → TermRestores (with_values forms) (term w (side_form s) (Some (side_bound s))) (term w (side_form (restored_side forms s)) (Some (side_bound (restored_side forms s))))
side_term_restored forms w (Low s) h = same_term (with_values forms) w (scaled (whole (negsuc 0)) s.form) (scaled (whole (negsuc 0)) (restored_split forms s).form) (Some (side_bound (Low s))) (λ y. value-scaled y (whole (negsuc 0)) (restored_split forms s).form ∙ ap (λ v. whole (negsuc 0) *ℚ v) (split_value forms s h y) ∙ sym (value-scaled (with_values forms y) (whole (negsuc 0)) s.form))
side_term_restored forms w (High s) h = same_term (with_values forms) w s.form (restored_split forms s).form (Some (side_bound (High s))) (split_value forms s h)

way_restored : (forms : List (List Entry)) (sides : List Side) (i : ℕ) → way_get (map (restored_side forms) sides) i ≡ option_map (restored_side forms) (way_get sides i)
way_restored forms [] i = refl
way_restored forms (s ∷ sides) i = rw (length-map sides (restored_side forms), way_restored forms sides i) (go (i == length sides))
  where
    go : (b : Bool) → (if b then Some (restored_side forms s) else option_map (restored_side forms) (way_get sides i)) ≡ option_map (restored_side forms) (if b then Some s else way_get sides i)
    go true = refl
    go false = refl

way_of_column : (sides : List Side) → AllByRecursion IsOfColumn sides → (i : ℕ) → IfSome (way_get sides i) IsOfColumn
way_of_column [] h i = tt
way_of_column (s ∷ sides) h i = go (i == length sides) (way_of_column sides h.1 i)
  where
    go : (b : Bool) → IfSome (way_get sides i) IsOfColumn → IfSome (if b then Some s else way_get sides i) IsOfColumn
    go true k = h.0
    go false k = k

split_restored : (forms : List (List Entry)) (sides : List Side) → AllByRecursion IsOfColumn sides → (i : Item) → TermRestores (with_values forms) (split_term sides i) (split_term (map (restored_side forms) sides) i)
split_restored forms sides h i = rw (way_restored forms sides i.index) (go (is_less zero_ℚ i.weight) (way_get sides i.index) (way_of_column sides h i.index))
  where
    go : (b : Bool) (o : Option Side) → IfSome o IsOfColumn → TermRestores (with_values forms) (if b then option_and_then (λ s. term i.weight (side_form s) (Some (side_bound s))) o else None) (if b then option_and_then (λ s. term i.weight (side_form s) (Some (side_bound s))) (option_map (restored_side forms) o) else None)
    go true None k = tt
    go true (Some s) k = side_term_restored forms i.weight s k
    go false o k = tt

-- ---- all weights of a leaf

no_derived : (forms : List (List Entry)) (i : Item) → TermRestores (with_values forms) (derived_term [] i) (derived_term [] i)
no_derived forms i = go (is_less zero_ℚ i.weight)
  where
    go : (b : Bool) → TermRestores (with_values forms) (if b then None else None) (if b then None else None)
    go true = tt
    go false = tt

pub terms_restored : (p q : Problem) (forms : List (List Entry)) → IsExtended p forms q → (sides : List Side) → AllByRecursion IsOfColumn sides → (w : Weights) → Restores (with_values forms) (terms q [] [] sides w) (terms p [] [] (map (restored_side forms) sides) (restored_weights p forms w))
terms_restored p q forms h sides k w =
    rows_restored p q forms h w.rows _ _
    (columns_restored p q forms h w.columns _ _
    (gathered_restored (with_values forms) (derived_term []) (derived_term []) w.derived _ _ (no_derived forms)
    (gathered_restored (with_values forms) (split_term sides) (split_term (map (restored_side forms) sides)) w.splits (Some []) (Some []) (split_restored forms sides k)
    (record { value = λ y. refl; bound = refl }))))
