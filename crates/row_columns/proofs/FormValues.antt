-- The point of a problem with columns for forms that a point of the problem without them makes, and values of forms there.
use Rattle.std.proofs.Common.{◌≡◌, ◌∙◌, ℕ, ◌+◌, ◌-◌, ◌<◌, ◌≤◌, List, [], ◌∷◌, true, false, refl, ap, length, arith}
use Rattle.std.specs.Prelude.{negsuc, nat_lt, get_or}
use Rattle.std.proofs.lemmas.Bool.{lt-ltb, le-ltb}
use mathlib.Core.Path.{ap₂}
use Rattle.rational.specs.Rational.{Rational, ◌+ℚ◌, ◌*ℚ◌, neg_ℚ, zero_ℚ, whole}
use Rattle.rational.proofs.Laws as Q
use Rattle.milp.specs.Form.{Entry, value_at}
use Rattle.certificate.specs.Written.{column_form}
use Rattle.verdicts.proofs.Laws.{minus_one-mul}
use Rattle.row_columns.specs.Extended.{moved, tying_form}
use Rattle.row_columns.specs.Restored.{restored_column}

-- the forms' values, and then the point's numbers
abbrev pub with_values : List (List Entry) → (ℕ → Rational) → ℕ → Rational
with_values forms y j = value_at y (restored_column forms j)

pub column_before : (forms : List (List Entry)) (j : ℕ) → j < length forms → restored_column forms j ≡ get_or forms j []
column_before forms j h = let e : nat_lt j (length forms) ≡ true = lt-ltb j (length forms) h in rw e refl

pub column_behind : (forms : List (List Entry)) (j : ℕ) → length forms ≤ j → restored_column forms j ≡ column_form (j - length forms)
column_behind forms j h = let e : nat_lt j (length forms) ≡ false = le-ltb j (length forms) h in rw e refl

-- the value of the form that is one column is the column's number
pub column_value : (y : ℕ → Rational) (j : ℕ) → value_at y (column_form j) ≡ y j
column_value y j = Q.add-zero _ ∙ Q.one-mul _

pub number_behind : (forms : List (List Entry)) (y : ℕ → Rational) (j : ℕ) → length forms ≤ j → with_values forms y j ≡ y (j - length forms)
number_behind forms y j h = ap (value_at y) (column_behind forms j h) ∙ column_value y (j - length forms)

moved_number : (forms : List (List Entry)) (y : ℕ → Rational) (i : ℕ) → with_values forms y (length forms + i) ≡ y i
moved_number forms y i =
    let e : (length forms + i) - length forms ≡ i = omega arith in
    number_behind forms y (length forms + i) (omega arith) ∙ ap y e

pub moved_value : (forms : List (List Entry)) (y : ℕ → Rational) (form : List Entry) → value_at (with_values forms y) (moved (length forms) form) ≡ value_at y form
moved_value forms y [] = refl
moved_value forms y (e ∷ es) = ap₂ ◌+ℚ◌ (ap (λ v. e.coefficient *ℚ v) (moved_number forms y e.column)) (moved_value forms y es)

-- what ties a column to its form is 0
pub tied_value : (forms : List (List Entry)) (y : ℕ → Rational) (j : ℕ) (form : List Entry) → j < length forms → get_or forms j [] ≡ form → value_at (with_values forms y) (tying_form (length forms) j form) ≡ zero_ℚ
tied_value forms y j form h e =
    ap₂ ◌+ℚ◌ (ap (λ v. whole (negsuc 0) *ℚ v) (ap (value_at y) (column_before forms j h ∙ e)) ∙ minus_one-mul (value_at y form)) (moved_value forms y form)
    ∙ Q.add_comm (neg_ℚ (value_at y form)) (value_at y form) ∙ Q.add-neg (value_at y form)
