-- The columns and rows that extend a problem, with their names.
use Rattle.std.specs.Prelude.{ℕ, ◌+◌, ◌≤◌, true, List, [], ◌∷◌, ◌++◌, map, length, Some, None}
use Rattle.std.specs.Fmt.{decimal}
use Rattle.std.specs.List.{AllByRecursion}
use Rattle.rational.specs.Rational.{zero_ℚ}
use Rattle.milp.specs.Form.{Entry}
use Rattle.milp.specs.Problem.{Column, Row}
use Rattle.row_columns.specs.Extended.{tying_form}

-- ---- names

abbrev pub column_names : List Column → List (List ℕ)
column_names columns = map (λ (c : Column). c.name) columns

abbrev pub row_names : List Row → List (List ℕ)
row_names rows = map (λ (r : Row). r.name) rows

-- no name is longer than n
abbrev pub AreWithin : ℕ → List (List ℕ) → Type 0
AreWithin n names = AllByRecursion (λ name. length name ≤ n) names

-- the name of the j-th column, and of the row that ties it
abbrev pub new_name : List ℕ → ℕ → List ℕ
new_name prefix j = prefix ++ decimal j

-- ---- columns and rows

abbrev pub form_column : List ℕ → ℕ → Column
form_column prefix j = record { name = new_name prefix j; lower = None; upper = None; integer = true }

-- the columns of these forms, from the j-th on
abbrev pub form_columns : List ℕ → ℕ → List (List Entry) → List Column
form_columns prefix j [] = []
form_columns prefix j (form ∷ forms) = form_column prefix j ∷ form_columns prefix (j + 1) forms

abbrev pub tying_row : List ℕ → ℕ → ℕ → List Entry → Row
tying_row prefix count j form = record { name = new_name prefix j; lower = Some zero_ℚ; upper = Some zero_ℚ; entries = tying_form count j form }

-- the rows that tie the columns of these forms, from the j-th on
abbrev pub tying_rows : List ℕ → ℕ → ℕ → List (List Entry) → List Row
tying_rows prefix count j [] = []
tying_rows prefix count j (form ∷ forms) = tying_row prefix count j form ∷ tying_rows prefix count (j + 1) forms
