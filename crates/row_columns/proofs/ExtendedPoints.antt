-- A point with the values of forms before its numbers is feasible where the problem has columns for these forms.
use Rattle.std.proofs.Common.{◌≡◌, ◌∙◌, ℕ, ◌+◌, ◌-◌, ◌<◌, ◌≤◌, zero, suc, List, [], ◌∷◌, ◌++◌, map, true, refl, sym, ap, Option, Some, None, IfSome, slice_get, length, IsTrue, arith}
use Rattle.std.specs.Prelude.{drop, get_or, option_map}
use Rattle.std.specs.List.{list_all}
use Rattle.std.proofs.lemmas.Option.{IfSome_then}
use Rattle.std.proofs.lemmas.List.{length-append, length-map}
use Rattle.std.proofs.Math.Decide.{dec_lt}
use mathlib.Core.Path.{ap₂}
use Rattle.rational.specs.Rational.{Rational, ◌+ℚ◌, ◌*ℚ◌, zero_ℚ}
use Rattle.rational.proofs.Laws as Q
use Rattle.milp.specs.Form.{Entry, value_at, number_at, sum_at}
use Rattle.milp.specs.Problem.{Column, Row, Problem}
use Rattle.milp.specs.Points.{IsWhole, IsWithin, Feasible}
use Rattle.verdicts.specs.Proves.{is_whole_form}
use Rattle.verdicts.proofs.Laws.{le_by, meets_true, true_meets, whole_value}
use Rattle.row_columns.specs.Extended.{moved, moved_row, tying_form, IsFormColumn, IsExtended}
use Rattle.row_columns.proofs.FormValues.{with_values, column_before, number_behind, moved_value, tied_value}
use Rattle.row_columns.proofs.ExtendedParts.{Ties, column_of_form, column_of_problem, row_of_problem, row_of_form}
use Rattle.row_columns.proofs.RestoredNodes.{all_at, count_columns}
use Rattle.row_columns.proofs.RestoredPoints.{meets_dropped}

pub feasible_behind : (p q : Problem) (forms : List (List Entry)) (x : List Rational) → IsExtended p forms q → Feasible q x → Feasible p (drop (length forms) x)
feasible_behind p q forms x h f = meets_true p (drop (length forms) x) (meets_dropped p q forms h x (true_meets q x f))

-- ---- the numbers and values of such a point

abbrev pub extended_point : List (List Entry) → List Rational → List Rational
extended_point forms x = map (sum_at x) forms ++ x

front_number : (forms : List (List Entry)) (x y : List Rational) (j : ℕ) → j < length forms → number_at (map (sum_at x) forms ++ y) j ≡ sum_at x (get_or forms j [])
front_number [] x y j h = absurd (omega arith)
front_number (form ∷ forms) x y zero h = refl
front_number (form ∷ forms) x y (suc j) h = front_number forms x y j (omega arith)

later_number : (forms : List (List Entry)) (x y : List Rational) (j : ℕ) → length forms ≤ j → number_at (map (sum_at x) forms ++ y) j ≡ number_at y (j - length forms)
later_number [] x y j h = let e : j ≡ j - 0 = omega arith in ap (number_at y) e
later_number (form ∷ forms) x y zero h = absurd (omega arith)
later_number (form ∷ forms) x y (suc j) h = let e : j - length forms ≡ suc j - suc (length forms) = omega arith in later_number forms x y j (omega arith) ∙ ap (number_at y) e

extended_number : (forms : List (List Entry)) (x : List Rational) (j : ℕ) → number_at (extended_point forms x) j ≡ with_values forms (number_at x) j
extended_number forms x j = elim (dec_lt j (length forms)) [
  | yes low ↦ front_number forms x x j low ∙ sym (ap (value_at (number_at x)) (column_before forms j low))
  | no high ↦ later_number forms x x j (omega arith) ∙ sym (number_behind forms (number_at x) j (omega arith))
]

same_numbers : (y z : ℕ → Rational) (form : List Entry) → ((j : ℕ) → y j ≡ z j) → value_at y form ≡ value_at z form
same_numbers y z [] h = refl
same_numbers y z (e ∷ es) h = ap₂ ◌+ℚ◌ (ap (λ v. e.coefficient *ℚ v) (h e.column)) (same_numbers y z es h)

moved_sum : (forms : List (List Entry)) (x : List Rational) (form : List Entry) → sum_at (extended_point forms x) (moved (length forms) form) ≡ sum_at x form
moved_sum forms x form = same_numbers (number_at (extended_point forms x)) (with_values forms (number_at x)) (moved (length forms) form) (extended_number forms x) ∙ moved_value forms (number_at x) form

tied_sum : (forms : List (List Entry)) (x : List Rational) (j : ℕ) → j < length forms → sum_at (extended_point forms x) (tying_form (length forms) j (get_or forms j [])) ≡ zero_ℚ
tied_sum forms x j h = same_numbers (number_at (extended_point forms x)) (with_values forms (number_at x)) (tying_form (length forms) j (get_or forms j [])) (extended_number forms x) ∙ tied_value forms (number_at x) j (get_or forms j []) h refl

-- ---- it is feasible

columns_within : (p q : Problem) (forms : List (List Entry)) (x : List Rational) → IsExtended p forms q → Feasible p x → (j : ℕ) → IfSome (slice_get q.columns j) (λ c. IsWithin c.lower c.upper (number_at (extended_point forms x) j))
columns_within p q forms x h f j = elim (dec_lt j (length forms)) [
  | yes low ↦ IfSome_then (slice_get q.columns j) (column_of_form p q forms h j low) (λ c k. any_number c k)
  | no high ↦ rw (column_of_problem p q forms h j (omega arith), later_number forms x x j (omega arith)) (f.relaxed.columns (j - length forms))
]
  where
    any_number : (c : Column) → IsFormColumn c → IsWithin c.lower c.upper (number_at (extended_point forms x) j)
    any_number c k = rw (k.lower, k.upper) (record { low = tt; high = tt })

columns_whole : (p q : Problem) (forms : List (List Entry)) (x : List Rational) → IsExtended p forms q → list_all (is_whole_form p) forms ≡ true → Feasible p x → (j : ℕ) → IfSome (slice_get q.columns j) (λ c. IsTrue c.integer → IsWhole (number_at (extended_point forms x) j))
columns_whole p q forms x h all f j = elim (dec_lt j (length forms)) [
  | yes low ↦ IfSome_then (slice_get q.columns j) (column_of_form p q forms h j low) (λ c k t. rw (front_number forms x x j low) (whole_value p x (get_or forms j []) f (all_at p forms j all low)))
  | no high ↦ rw (column_of_problem p q forms h j (omega arith), later_number forms x x j (omega arith)) (f.integers (j - length forms))
]

rows_within : (p q : Problem) (forms : List (List Entry)) (x : List Rational) → IsExtended p forms q → Feasible p x → (i : ℕ) → IfSome (slice_get q.rows i) (λ r. IsWithin r.lower r.upper (sum_at (extended_point forms x) r.entries))
rows_within p q forms x h f i = elim (dec_lt i (length p.rows)) [
  | yes low ↦ rw (row_of_problem p q forms h i low) (same (slice_get p.rows i) (f.relaxed.rows i))
  | no high ↦ IfSome_then (slice_get q.rows i) (row_of_form p q forms h i (omega arith)) (λ r k. tied r k)
]
  where
    same : (o : Option Row) → IfSome o (λ r. IsWithin r.lower r.upper (sum_at x r.entries)) → IfSome (option_map (moved_row (length forms)) o) (λ r. IsWithin r.lower r.upper (sum_at (extended_point forms x) r.entries))
    same None k = tt
    same (Some r) k = rw (moved_sum forms x r.entries) k

    tied : (r : Row) → Ties forms (i - length p.rows) r → IsWithin r.lower r.upper (sum_at (extended_point forms x) r.entries)
    tied r k =
        let e = ap (sum_at (extended_point forms x)) k.tying.entries ∙ tied_sum forms x (i - length p.rows) k.within in
        rw (k.tying.lower, k.tying.upper) (record { low = le_by _ _ _ _ refl e (Q.le_refl zero_ℚ); high = le_by _ _ _ _ e refl (Q.le_refl zero_ℚ) })

pub feasible_before : (p q : Problem) (forms : List (List Entry)) (x : List Rational) → IsExtended p forms q → list_all (is_whole_form p) forms ≡ true → Feasible p x → Feasible q (map (sum_at x) forms ++ x)
feasible_before p q forms x h all f = record {
  relaxed = record {
    size = length-append (map (sum_at x) forms) x ∙ ap₂ ◌+◌ (length-map forms (sum_at x)) f.relaxed.size ∙ sym (count_columns p q forms h);
    columns = columns_within p q forms x h f;
    rows = rows_within p q forms x h f;
  };
  integers = columns_whole p q forms x h all f;
}
