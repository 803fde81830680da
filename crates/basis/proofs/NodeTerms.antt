-- The terms of a node's weights, by weights on its variables.
use Rattle.std.proofs.Common.{◌≡◌, ◌∙◌, ℕ, ◌+◌, ◌<◌, List, [], ◌++◌, length, refl, sym, ap, arith, Bool, true, false, Option, Some, None, slice_get}
use Rattle.std.specs.Prelude.{option_and_then, option_map, if◌then◌else◌}
use Rattle.std.proofs.lemmas.Option.{get_or_from_slice_get}
use mathlib.Core.Path.{ap₂}
use Rattle.rational.specs.Rational.{Rational, ◌+ℚ◌, ◌*ℚ◌, zero_ℚ}
use Rattle.milp.specs.Form.{Entry, value_at}
use Rattle.milp.specs.Problem.{Row, Problem}
use Rattle.rational.specs.Compare.{is_less}
use Rattle.verdicts.specs.Certificate.{Side, Derived}
use Rattle.verdicts.specs.WeightedSums.{Weighted, combined, combined_bound, sum_below, AllBelow}
use Rattle.verdicts.specs.Proves.{term, bound_used, row_term, column_term, derived_term, gathered, terms, lower_under, upper_under}
use Rattle.basis.specs.System.{Bounds, size, lower_of, upper_of, Satisfies, form_of}
use Rattle.basis.specs.Node.{row_bounds, derived_bounds, system_of, IsOverColumns}
use Rattle.basis.specs.Weights.{items_of, weights_of}
use Rattle.basis.proofs.Lists.{slice_get_some}
use Rattle.basis.proofs.Forms.{form_value, form_below, form-column, form-beyond}
use Rattle.basis.proofs.NodeSystems.{node_size, column_place, row_place, derived_place, row_form, derived_form, is_system}
use Rattle.basis.proofs.NodeWeights.{system_term, in_range, AreBoundsThere, gathered_range, list_sum, used_sum, three_kinds, value_in_range, bound_in_range, below_in_range, value-combined, bound-append, below-combined}

-- a term, by the form and the bounds
term_same : (w : Rational) (f g : List Entry) (l m u v : Option Rational) → f ≡ g → l ≡ m → u ≡ v → term w f (bound_used w l u) ≡ term w g (bound_used w m v)
term_same w f g l m u v e h k = ap₂ (term w) e (ap₂ (bound_used w) h k)

module _ (p : Problem) (ds : List Derived) (sides : List Side) where
  pub lower-column : (j : ℕ) → j < length p.columns → lower_of (system_of p ds sides) j ≡ lower_under p sides j
  lower-column j h = ap (option_and_then (λ (b : Bounds). b.lower)) (column_place p ds sides j h)

  pub upper-column : (j : ℕ) → j < length p.columns → upper_of (system_of p ds sides) j ≡ upper_under p sides j
  upper-column j h = ap (option_and_then (λ (b : Bounds). b.upper)) (column_place p ds sides j h)

  column_item : (j : ℕ) → j < length p.columns → (w : Rational) → column_term p sides (record { index = j; weight = w }) ≡ system_term (system_of p ds sides) (0 + j) w
  column_item j h w =
      let e : j ≡ 0 + j = omega arith in
      term_same w _ _ _ _ _ _ (sym (form-column (system_of p ds sides) j h)) (sym (lower-column j h)) (sym (upper-column j h)) ∙ ap (λ v. system_term (system_of p ds sides) v w) e

  -- ---- rows

  pub row-lower : (i : ℕ) (r : Row) → i < length p.rows → slice_get p.rows i ≡ Some r → lower_of (system_of p ds sides) (length p.columns + i) ≡ r.lower
  row-lower i r h e = ap (option_and_then (λ (b : Bounds). b.lower)) (row_place p ds sides i h ∙ ap (option_map row_bounds) e)

  pub row-upper : (i : ℕ) (r : Row) → i < length p.rows → slice_get p.rows i ≡ Some r → upper_of (system_of p ds sides) (length p.columns + i) ≡ r.upper
  row-upper i r h e = ap (option_and_then (λ (b : Bounds). b.upper)) (row_place p ds sides i h ∙ ap (option_map row_bounds) e)

  pub row-entries : (i : ℕ) (r : Row) → i < length p.rows → slice_get p.rows i ≡ Some r → form_of (system_of p ds sides) (length p.columns + i) ≡ r.entries
  row-entries i r h e = form-beyond (system_of p ds sides) i ∙ get_or_from_slice_get ((system_of p ds sides).forms) i r.entries [] (row_form p ds sides i h ∙ ap (option_map (λ (t : Row). t.entries)) e)

  row_item : (i : ℕ) → i < length p.rows → (w : Rational) → row_term p (record { index = i; weight = w }) ≡ system_term (system_of p ds sides) (length p.columns + i) w
  row_item i h w =
      let found = slice_get_some p.rows i h in
      ap (option_and_then (λ (r : Row). term w r.entries (bound_used w r.lower r.upper))) found.1
      ∙ sym (term_same w _ _ _ _ _ _ (row-entries i found.0 h found.1) (row-lower i found.0 h found.1) (row-upper i found.0 h found.1))

  -- ---- derived rows

  derived_at : (k : ℕ) (d : Derived) → slice_get ds k ≡ Some d → slice_get ((system_of p ds sides).bounds) (length p.columns + length p.rows + k) ≡ Some (derived_bounds d)
  derived_at k d e = derived_place p ds sides k ∙ ap (option_map derived_bounds) e

  pub derived-lower : (k : ℕ) (d : Derived) → slice_get ds k ≡ Some d → lower_of (system_of p ds sides) (length p.columns + length p.rows + k) ≡ Some d.bound
  derived-lower k d e = ap (option_and_then (λ (b : Bounds). b.lower)) (derived_at k d e)

  pub derived-upper : (k : ℕ) (d : Derived) → slice_get ds k ≡ Some d → upper_of (system_of p ds sides) (length p.columns + length p.rows + k) ≡ None
  derived-upper k d e = ap (option_and_then (λ (b : Bounds). b.upper)) (derived_at k d e)

  pub derived-entries : (k : ℕ) (d : Derived) → slice_get ds k ≡ Some d → form_of (system_of p ds sides) (length p.columns + length p.rows + k) ≡ d.form
  derived-entries k d e =
      let same : length p.columns + length p.rows + k ≡ length p.columns + (length p.rows + k) = omega arith in
      ap (form_of (system_of p ds sides)) same ∙ form-beyond (system_of p ds sides) (length p.rows + k)
      ∙ get_or_from_slice_get ((system_of p ds sides).forms) (length p.rows + k) d.form [] (derived_form p ds sides k ∙ ap (option_map (λ (t : Derived). t.form)) e)

  derived_item : (k : ℕ) → k < length ds → (w : Rational) → derived_term ds (record { index = k; weight = w }) ≡ system_term (system_of p ds sides) (length p.columns + length p.rows + k) w
  derived_item k h w =
      let found = slice_get_some ds k h in
      choose (is_less zero_ℚ w) found.0 found.1
      ∙ sym (term_same w _ _ _ _ _ _ (derived-entries k found.0 found.1) (derived-lower k found.0 found.1) (derived-upper k found.0 found.1))
    where
      choose : (t : Bool) (d : Derived) → slice_get ds k ≡ Some d
          → (if t then option_and_then (λ (c : Derived). term w c.form (Some c.bound)) (slice_get ds k) else None) ≡ term w d.form (if t then Some d.bound else None)
      choose true d e = ap (option_and_then (λ (c : Derived). term w c.form (Some c.bound))) e
      choose false d e = refl

  -- ---- together

  pub all_terms : (ℕ → List Rational) → List Weighted
  all_terms f =
      in_range (system_of p ds sides) f (length p.columns) (length p.rows)
      ++ (in_range (system_of p ds sides) f 0 (length p.columns) ++ (in_range (system_of p ds sides) f (length p.columns + length p.rows) (length ds) ++ []))

  pub terms_are : (f : ℕ → List Rational) → ((v : ℕ) → v < size (system_of p ds sides) → AreBoundsThere (system_of p ds sides) v (f v)) → terms p ds sides [] (weights_of p ds f) ≡ Some (all_terms f)
  unfolding all_terms
  terms_are f there =
      let z = node_size p ds sides in
      ap (gathered (row_term p) (items_of f (length p.columns) 0 (length p.rows)))
      (ap (gathered (column_term p sides) (items_of f 0 0 (length p.columns)))
      (gathered_range (derived_term ds) (system_of p ds sides) f (length p.columns + length p.rows) (length ds) (length p.columns + length p.rows) 0 (length ds) [] (omega arith) (omega arith) derived_item (λ k h. there (length p.columns + length p.rows + k) (omega arith)))
      ∙ gathered_range (column_term p sides) (system_of p ds sides) f 0 (length p.columns) 0 0 (length p.columns) _ (omega arith) (omega arith) column_item (λ j h. there (0 + j) (omega arith)))
      ∙ gathered_range (row_term p) (system_of p ds sides) f (length p.columns) (length p.rows) (length p.columns) 0 (length p.rows) _ (omega arith) (omega arith) row_item (λ i h. there (length p.columns + i) (omega arith))

  pub terms_value : (f : ℕ → List Rational) (y : ℕ → Rational) → Satisfies (system_of p ds sides) y → value_at y (combined (all_terms f)) ≡ sum_below (size (system_of p ds sides)) (λ v. list_sum (f v) *ℚ y v)
  unfolding all_terms
  terms_value f y h =
      let z = node_size p ds sides in
      let forms : (v : ℕ) → v < size (system_of p ds sides) → value_at y (form_of (system_of p ds sides) v) ≡ y v = λ v k. form_value (system_of p ds sides) y v h k in
      let g : ℕ → Rational = λ v. list_sum (f v) *ℚ y v in
      value-combined y (in_range (system_of p ds sides) f (length p.columns) (length p.rows)) _
      ∙ ap₂ ◌+ℚ◌ (value_in_range (system_of p ds sides) y f (length p.columns) (length p.rows) (omega arith) forms)
      (value-combined y (in_range (system_of p ds sides) f 0 (length p.columns)) _
      ∙ ap₂ ◌+ℚ◌ (value_in_range (system_of p ds sides) y f 0 (length p.columns) (omega arith) forms)
      (value-combined y (in_range (system_of p ds sides) f (length p.columns + length p.rows) (length ds)) []
      ∙ ap (λ t. t +ℚ zero_ℚ) (value_in_range (system_of p ds sides) y f (length p.columns + length p.rows) (length ds) (omega arith) forms)))
      ∙ three_kinds (λ v. list_sum (f v) *ℚ y v) (length p.columns) (length p.rows) (length ds)
      ∙ ap (λ t. sum_below t (λ v. list_sum (f v) *ℚ y v)) (sym z)

  pub terms_bound : (f : ℕ → List Rational) → combined_bound (all_terms f) ≡ sum_below (size (system_of p ds sides)) (λ v. used_sum (system_of p ds sides) v (f v))
  unfolding all_terms
  terms_bound f =
      let z = node_size p ds sides in
      bound-append (in_range (system_of p ds sides) f (length p.columns) (length p.rows)) _
      ∙ ap₂ ◌+ℚ◌ (bound_in_range (system_of p ds sides) f (length p.columns) (length p.rows))
      (bound-append (in_range (system_of p ds sides) f 0 (length p.columns)) _
      ∙ ap₂ ◌+ℚ◌ (bound_in_range (system_of p ds sides) f 0 (length p.columns))
      (bound-append (in_range (system_of p ds sides) f (length p.columns + length p.rows) (length ds)) []
      ∙ ap (λ t. t +ℚ zero_ℚ) (bound_in_range (system_of p ds sides) f (length p.columns + length p.rows) (length ds))))
      ∙ three_kinds (λ v. used_sum (system_of p ds sides) v (f v)) (length p.columns) (length p.rows) (length ds)
      ∙ ap (λ t. sum_below t (λ v. used_sum (system_of p ds sides) v (f v))) (sym z)

  pub terms_below : (f : ℕ → List Rational) → IsOverColumns p ds sides → AllBelow (length p.columns) (combined (all_terms f))
  unfolding all_terms
  terms_below f h =
      let z = node_size p ds sides in
      let forms : (v : ℕ) → v < size (system_of p ds sides) → AllBelow (length p.columns) (form_of (system_of p ds sides) v) = λ v k. form_below (system_of p ds sides) v (is_system p ds sides h) k in
      below-combined (length p.columns) (in_range (system_of p ds sides) f (length p.columns) (length p.rows)) _ (below_in_range (system_of p ds sides) f (length p.columns) (length p.rows) (omega arith) forms)
      (below-combined (length p.columns) (in_range (system_of p ds sides) f 0 (length p.columns)) _ (below_in_range (system_of p ds sides) f 0 (length p.columns) (omega arith) forms)
      (below-combined (length p.columns) (in_range (system_of p ds sides) f (length p.columns + length p.rows) (length ds)) [] (below_in_range (system_of p ds sides) f (length p.columns + length p.rows) (length ds) (omega arith) forms) tt))
