-- The variables of a node's system: columns, rows and derived rows.
use Rattle.std.proofs.Common.{◌≡◌, ◌∙◌, ℕ, zero, suc, ◌+◌, ◌-◌, ◌<◌, List, ◌++◌, length, refl, sym, ap, subst, arith, Option, Some, None, IfSome, slice_get}
use Rattle.std.specs.Prelude.{map, option_map}
use Rattle.std.proofs.lemmas.List.{length-append, length-map}
use Rattle.std.proofs.lemmas.Option.{slice_get-map}
use Rattle.std.proofs.Math.Decide.{dec_lt}
use Rattle.milp.specs.Form.{Entry}
use Rattle.milp.specs.Problem.{Row, Problem}
use Rattle.milp.specs.Points.{sign_of}
use Rattle.verdicts.specs.Certificate.{Side, Derived}
use Rattle.verdicts.specs.WeightedSums.{AllBelow}
use Rattle.verdicts.specs.Proves.{lower_under, upper_under}
use Rattle.basis.specs.System.{size, IsSystem}
use Rattle.basis.specs.Node.{column_bounds, row_bounds, derived_bounds, system_of, IsOverColumns}
use Rattle.basis.proofs.Lists.{slice_get_left, slice_get_right}
use Rattle.basis.proofs.Values.{below-scaled}

pub length-columns : (p : Problem) (sides : List Side) (j count : ℕ) → length (column_bounds p sides j count) ≡ count
length-columns p sides j zero = refl
length-columns p sides j (suc count) = let e = length-columns p sides (suc j) count in omega arith

column_bounds_at : (p : Problem) (sides : List Side) (i count j : ℕ) → j < count → slice_get (column_bounds p sides i count) j ≡ Some (record { lower = lower_under p sides (i + j); upper = upper_under p sides (i + j) })
column_bounds_at p sides i zero j h = absurd (omega arith)
column_bounds_at p sides i (suc count) zero h = let e : i ≡ i + 0 = omega arith in ap (λ t. Some (record { lower = lower_under p sides t; upper = upper_under p sides t })) e
column_bounds_at p sides i (suc count) (suc j) h =
    let e : suc i + j ≡ i + suc j = omega arith in
    column_bounds_at p sides (suc i) count j (omega arith) ∙ ap (λ t. Some (record { lower = lower_under p sides t; upper = upper_under p sides t })) e

module _ (p : Problem) (ds : List Derived) (sides : List Side) where
  n : ℕ
  n = length p.columns

  pub length-forms : length ((system_of p ds sides).forms) ≡ length p.rows + length ds
  length-forms = length-append (map (λ (r : Row). r.entries) p.rows) (map (λ (d : Derived). d.form) ds) ∙ (let e = length-map p.rows (λ (r : Row). r.entries) in let f = length-map ds (λ (d : Derived). d.form) in omega arith)

  pub node_size : size (system_of p ds sides) ≡ length p.columns + (length p.rows + length ds)
  node_size = ap (λ t. length p.columns + t) length-forms

  -- ---- bounds

  pub column_place : (j : ℕ) → j < length p.columns → slice_get ((system_of p ds sides).bounds) j ≡ Some (record { lower = lower_under p sides j; upper = upper_under p sides j })
  column_place j h =
      let e : 0 + j ≡ j = omega arith in
      let k = length-columns p sides 0 (length p.columns) in
      slice_get_left (column_bounds p sides 0 (length p.columns)) (map row_bounds p.rows ++ map derived_bounds ds) j (rw k h)
      ∙ column_bounds_at p sides 0 (length p.columns) j h ∙ ap (λ t. Some (record { lower = lower_under p sides t; upper = upper_under p sides t })) e

  past_columns : (i : ℕ) → slice_get ((system_of p ds sides).bounds) (length p.columns + i) ≡ slice_get (map row_bounds p.rows ++ map derived_bounds ds) i
  past_columns i = slice_get_right (column_bounds p sides 0 (length p.columns)) (map row_bounds p.rows ++ map derived_bounds ds) (length p.columns) i (length-columns p sides 0 (length p.columns))

  pub row_place : (i : ℕ) → i < length p.rows → slice_get ((system_of p ds sides).bounds) (length p.columns + i) ≡ option_map row_bounds (slice_get p.rows i)
  row_place i h = past_columns i ∙ slice_get_left (map row_bounds p.rows) (map derived_bounds ds) i (rw (length-map p.rows row_bounds) h) ∙ slice_get-map row_bounds p.rows i

  pub derived_place : (k : ℕ) → slice_get ((system_of p ds sides).bounds) (length p.columns + length p.rows + k) ≡ option_map derived_bounds (slice_get ds k)
  derived_place k =
      let e : length p.columns + length p.rows + k ≡ length p.columns + (length p.rows + k) = omega arith in
      ap (slice_get ((system_of p ds sides).bounds)) e ∙ past_columns (length p.rows + k)
      ∙ slice_get_right (map row_bounds p.rows) (map derived_bounds ds) (length p.rows) k (length-map p.rows row_bounds) ∙ slice_get-map derived_bounds ds k

  -- ---- forms

  pub row_form : (i : ℕ) → i < length p.rows → slice_get ((system_of p ds sides).forms) i ≡ option_map (λ (r : Row). r.entries) (slice_get p.rows i)
  row_form i h = slice_get_left (map (λ (r : Row). r.entries) p.rows) (map (λ (d : Derived). d.form) ds) i (rw (length-map p.rows (λ (r : Row). r.entries)) h) ∙ slice_get-map (λ (r : Row). r.entries) p.rows i

  pub derived_form : (k : ℕ) → slice_get ((system_of p ds sides).forms) (length p.rows + k) ≡ option_map (λ (d : Derived). d.form) (slice_get ds k)
  derived_form k = slice_get_right (map (λ (r : Row). r.entries) p.rows) (map (λ (d : Derived). d.form) ds) (length p.rows) k (length-map p.rows (λ (r : Row). r.entries)) ∙ slice_get-map (λ (d : Derived). d.form) ds k

  -- ---- it is a system

  forms_below : IsOverColumns p ds sides → (i : ℕ) → IfSome (slice_get ((system_of p ds sides).forms) i) (AllBelow (length p.columns))
  forms_below h i = elim (dec_lt i (length p.rows)) [
    | yes low ↦
        let P : Option (List Entry) → Type 0 = λ o. IfSome o (AllBelow (length p.columns)) in
        subst P (sym (row_form i low)) (of_rows (slice_get p.rows i) (h.rows i))
    | no high ↦
        let P : Option (List Entry) → Type 0 = λ o. IfSome o (AllBelow (length p.columns)) in
        let e : length p.rows + (i - length p.rows) ≡ i = omega arith in
        subst P (sym (derived_form (i - length p.rows)) ∙ ap (slice_get ((system_of p ds sides).forms)) e) (of_derived (slice_get ds (i - length p.rows)) (h.derived (i - length p.rows)))
  ]
    where
      of_rows : (o : Option Row) → IfSome o (λ r. AllBelow (length p.columns) r.entries) → IfSome (option_map (λ (r : Row). r.entries) o) (AllBelow (length p.columns))
      of_rows None k = tt
      of_rows (Some r) k = k

      of_derived : (o : Option Derived) → IfSome o (λ d. AllBelow (length p.columns) d.form) → IfSome (option_map (λ (d : Derived). d.form) o) (AllBelow (length p.columns))
      of_derived None k = tt
      of_derived (Some d) k = k

  pub is_system : IsOverColumns p ds sides → IsSystem (system_of p ds sides)
  is_system h = record {
    forms = forms_below h;
    objective = below-scaled (length p.columns) (sign_of p.direction) p.objective h.objective;
    bounds = length-append (column_bounds p sides 0 (length p.columns)) (map row_bounds p.rows ++ map derived_bounds ds)
        ∙ (let a = length-columns p sides 0 (length p.columns) in let b = length-append (map row_bounds p.rows) (map derived_bounds ds) in let c = length-map p.rows row_bounds in let d = length-map ds derived_bounds in let e = length-forms in omega arith);
  }
