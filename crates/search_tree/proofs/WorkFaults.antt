-- The operations of the work at a node that do not fit are on its site numbers.
use Rattle.std.proofs.Common.{◌≡◌, ℕ, zero, suc, ◌+◌, nat_le, nat_lt, ◌&&◌, not, List, [], ◌∷◌, length, true, Some, slice_get, refl, sym, subst, arith}
use Rattle.std.specs.List.{list_all}
use Rattle.std.proofs.lemmas.Bool.{and_from, and_parts}
use Rattle.std.proofs.lemmas.Bool.Decides.{nat_tests}
use Rattle.std.proofs.lemmas.Option.{same_Some}
use Rattle.rational.specs.Compare.{is_zero}
use Rattle.milp.specs.Form.{Entry}
use Rattle.milp.specs.Problem.{Row, Problem}
use Rattle.fraction.specs.declared.frac.NoFit.{NoFit}
use Rattle.instance.specs.Sums.{value_answer}
use Rattle.instance.specs.WellFormed.{IsWellFormed, are_entries_from}
use Rattle.verdicts.specs.Certificate.{Split, Side, Low, High, Derived, Empty, Bound}
use Rattle.verdicts.specs.Migrated.{named}
use Rattle.certificate.specs.Written.{column_form, split_column}
use Rattle.basis.specs.Node.{split_form, IsOverColumns}
use Rattle.basis.specs.Numbers.{node_numbers}
use Rattle.basis.proofs.Laws.{node_operation}
use Rattle.cert_check.specs.Parts.{ascending, point_answer, ray_answer, node_answer}
use Rattle.search_node.specs.Faults.{IsSiteFault}
use Rattle.search_tree.specs.Ascending.{AreFormsAscending}
use Rattle.search_tree.specs.Points.{IsOfColumn, AreOfColumns}
use Rattle.search_tree.specs.Work.{node_setting, IsWorkFault}
use Rattle.search_tree.proofs.NodeTests.{optimal_point_told, optimal_value_told, bound_told, empty_told, endless_ray_told, told_fault}

ascends : (least n : ℕ) (es : List Entry) → are_entries_from least n es ≡ true → ascending least es ≡ true
ascends least n [] h = refl
ascends least n (e ∷ es) h =
    let first = and_parts (nat_le least e.column) (nat_lt e.column n && (not (is_zero e.coefficient) && are_entries_from (e.column + 1) n es)) h in
    let second = and_parts (nat_lt e.column n) (not (is_zero e.coefficient) && are_entries_from (e.column + 1) n es) first.1 in
    let rest = and_parts (not (is_zero e.coefficient)) (are_entries_from (e.column + 1) n es) second.1 in
    and_from (nat_le least e.column) (ascending (e.column + 1) es) first.0 (ascends (e.column + 1) n es rest.1)

rows_ascend : (n : ℕ) (rows : List Row) → list_all (λ (r : Row). are_entries_from 0 n r.entries) rows ≡ true → (i : ℕ) (r : Row) → slice_get rows i ≡ Some r → ascending 0 r.entries ≡ true
rows_ascend n [] h i r at = cc
rows_ascend n (row ∷ rows) h zero r at =
    let parts = and_parts (are_entries_from 0 n row.entries) (list_all (λ (s : Row). are_entries_from 0 n s.entries) rows) h in
    subst (λ (s : Row). ascending 0 s.entries ≡ true) (same_Some row r at) (ascends 0 n row.entries parts.0)
rows_ascend n (row ∷ rows) h (suc i) r at =
    let parts = and_parts (are_entries_from 0 n row.entries) (list_all (λ (s : Row). are_entries_from 0 n s.entries) rows) h in
    rows_ascend n rows parts.1 i r at

unit_ascends : (j : ℕ) → ascending 0 (column_form j) ≡ true
unit_ascends j = grind (arith, nat_tests)

column_ascends : (s : Split) → IsOfColumn s → ascending 0 s.form ≡ true
column_ascends s e = let P : List Entry → Type 0 = λ form. ascending 0 form ≡ true in subst P (sym e) (unit_ascends (split_column s))

columns_ascend : (sides : List Side) → AreOfColumns sides → (k : ℕ) (side : Side) → slice_get sides k ≡ Some side → ascending 0 (split_form side) ≡ true
columns_ascend [] h k side at = cc
columns_ascend (Low s ∷ sides) h zero side at = subst (λ (t : Side). ascending 0 (split_form t) ≡ true) (same_Some (Low s) side at) (column_ascends s h.0)
columns_ascend (High s ∷ sides) h zero side at = subst (λ (t : Side). ascending 0 (split_form t) ≡ true) (same_Some (High s) side at) (column_ascends s h.0)
columns_ascend (Low s ∷ sides) h (suc k) side at = columns_ascend sides h.1 k side at
columns_ascend (High s ∷ sides) h (suc k) side at = columns_ascend sides h.1 k side at

-- the forms of a well-formed problem, without derived rows, below splits of columns
pub forms_ascend_below : (p : Problem) (sides : List Side) → IsWellFormed p.columns p.rows p.objective → AreOfColumns sides → AreFormsAscending p [] sides
forms_ascend_below p sides h of_columns = record { rows = rows_ascend (length p.columns) p.rows h.row_forms; derived = λ i d at. cc; splits = columns_ascend sides of_columns }

-- and at the root
pub forms_ascend : (p : Problem) → IsWellFormed p.columns p.rows p.objective → AreFormsAscending p [] []
forms_ascend p h = forms_ascend_below p [] h tt

pub on_site_numbers : (p : Problem) (ds : List Derived) (sides : List Side) (e : NoFit) → IsOverColumns p ds sides → AreFormsAscending p ds sides → IsWorkFault p ds sides e → IsSiteFault (node_numbers p ds sides) e
on_site_numbers p ds sides e over forms (IsWorkFault.in_method h) = record { numbers = node_operation p ds sides e.a _ e.b over h.operation; not_fit = h.not_fit }
on_site_numbers p ds sides e over forms (IsWorkFault.in_value x w b d h is) = told_fault (node_numbers p ds sides) (value_answer p x) e (optimal_value_told p ds sides x w b d over h) is
on_site_numbers p ds sides e over forms (IsWorkFault.in_point x w b d h is) = told_fault (node_numbers p ds sides) (point_answer p (Some x)) e (optimal_point_told p ds sides x w b d over h) is
on_site_numbers p ds sides e over forms (IsWorkFault.in_bound x w b d goal h is) = told_fault (node_numbers p ds sides) (node_answer (node_setting p ds sides) goal (Bound (named p sides w))) e (bound_told p ds sides x w b d forms h goal) is
on_site_numbers p ds sides e over forms (IsWorkFault.in_empty w goal h is) = told_fault (node_numbers p ds sides) (node_answer (node_setting p ds sides) goal (Empty (named p sides w))) e (empty_told p ds sides w forms h goal) is
on_site_numbers p ds sides e over forms (IsWorkFault.in_ray x ray h is) = told_fault (node_numbers p ds sides) (ray_answer p (Some ray)) e (endless_ray_told p ds sides x ray over h) is
