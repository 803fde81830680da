-- A problem stays well formed when its columns become continuous.
use Rattle.std.proofs.Common.{◌≡◌, ◌∙◌, ◌≤◌, ℕ, suc, List, [], ◌∷◌, ◌++◌, length, map, refl, sym, ap, subst}
use Rattle.std.specs.Prelude.{◌&&◌, ◌||◌, not, IsTrue}
use Rattle.std.specs.Str.{bytes_eq}
use Rattle.std.specs.List.{list_all}
use Rattle.milp.specs.Form.{Entry}
use Rattle.milp.specs.Problem.{Column, Row}
use Rattle.instance.specs.Continuous.{continuous}
use Rattle.instance.specs.WellFormed.{are_entries, has_column, are_distinct_columns, IsWellFormed, IsWithinLimits}

same_length : (cs : List Column) → length (map continuous cs) ≡ length cs
same_length [] = refl
same_length (c ∷ cs) = ap suc (same_length cs)

same_names : (name : List ℕ) (cs : List Column) → has_column name (map continuous cs) ≡ has_column name cs
same_names name [] = refl
same_names name (c ∷ cs) = ap (λ b. bytes_eq c.name name || b) (same_names name cs)

map_snoc : (cs : List Column) (c : Column) → map continuous (cs ++ c ∷ []) ≡ map continuous cs ++ continuous c ∷ []
map_snoc [] c = refl
map_snoc (d ∷ cs) c = ap (λ ds. continuous d ∷ ds) (map_snoc cs c)

same_distinct : (before cs : List Column) → are_distinct_columns (map continuous before) (map continuous cs) ≡ are_distinct_columns before cs
same_distinct before [] = refl
same_distinct before (c ∷ cs) =
    ap (λ b. not b && are_distinct_columns (map continuous before ++ continuous c ∷ []) (map continuous cs)) (same_names c.name before)
    ∙ ap (λ ds. not (has_column c.name before) && are_distinct_columns ds (map continuous cs)) (sym (map_snoc before c))
    ∙ ap (λ b. not (has_column c.name before) && b) (same_distinct (before ++ c ∷ []) cs)

module _ (cs made : List Column) (rs : List Row) (is : made ≡ map continuous cs) where
  as_many : length cs ≡ length made
  as_many = sym (ap length is ∙ same_length cs)

  pub well_formed : (objective : List Entry) → IsWellFormed cs rs objective → IsWellFormed made rs objective
  well_formed objective h = record {
    objective_form = subst (λ n. IsTrue (are_entries n objective)) as_many h.objective_form;
    row_forms = subst (λ n. IsTrue (list_all (λ (r : Row). are_entries n r.entries) rs)) as_many h.row_forms;
    column_names = subst (λ ds. IsTrue (are_distinct_columns [] ds)) (sym is) (subst IsTrue (sym (same_distinct [] cs)) h.column_names);
    row_names = h.row_names;
  }

  pub within_limits : IsWithinLimits cs rs → IsWithinLimits made rs
  within_limits h = record { columns = subst (λ n. n ≤ 1000000) as_many h.columns; rows = h.rows }
