-- The forms of a well-formed problem are over its columns.
use Rattle.std.proofs.Common.{◌≡◌, ℕ, zero, suc, ◌+◌, ◌&&◌, nat_le, nat_lt, not, List, [], ◌∷◌, length, true, IfSome, slice_get}
use Rattle.std.specs.List.{list_all}
use Rattle.std.proofs.lemmas.Bool.{and_parts, ltb-true}
use Rattle.milp.specs.Form.{Entry}
use Rattle.milp.specs.Problem.{Row, Problem}
use Rattle.verdicts.specs.WeightedSums.{AllBelow}
use Rattle.rational.specs.Compare.{is_zero}
use Rattle.instance.specs.WellFormed.{are_entries_from, IsWellFormed}
use Rattle.basis.specs.Node.{IsOverColumns}

below : (n least : ℕ) (form : List Entry) → are_entries_from least n form ≡ true → AllBelow n form
below n least [] h = tt
below n least (e ∷ es) h =
    let low = and_parts (nat_le least e.column) (nat_lt e.column n && (not (is_zero e.coefficient) && are_entries_from (e.column + 1) n es)) h in
    let column = and_parts (nat_lt e.column n) (not (is_zero e.coefficient) && are_entries_from (e.column + 1) n es) low.1 in
    let rest = and_parts (not (is_zero e.coefficient)) (are_entries_from (e.column + 1) n es) column.1 in
    (ltb-true e.column n column.0, below n (e.column + 1) es rest.1)

rows_below : (n : ℕ) (rows : List Row) → list_all (λ (r : Row). are_entries_from 0 n r.entries) rows ≡ true → (i : ℕ) → IfSome (slice_get rows i) (λ r. AllBelow n r.entries)
rows_below n [] h i = tt
rows_below n (r ∷ rows) h zero = let parts = and_parts (are_entries_from 0 n r.entries) (list_all (λ (s : Row). are_entries_from 0 n s.entries) rows) h in below n 0 r.entries parts.0
rows_below n (r ∷ rows) h (suc i) = let parts = and_parts (are_entries_from 0 n r.entries) (list_all (λ (s : Row). are_entries_from 0 n s.entries) rows) h in rows_below n rows parts.1 i

pub over_columns : (p : Problem) → IsWellFormed p.columns p.rows p.objective → IsOverColumns p [] []
over_columns p h = record {
  objective = below (length p.columns) 0 p.objective h.objective_form;
  rows = rows_below (length p.columns) p.rows h.row_forms;
  derived = λ k. tt;
  splits = λ k. tt;
}
