-- What holds of each problem that an `Instance` keeps: places in range, forms in order, names distinct.
use Rattle.std.specs.Prelude.{ℕ, ◌≤◌, ◌+◌, nat_le, nat_lt, ◌&&◌, Bool, true, List, [], ◌∷◌, ◌++◌, length, not, IsTrue}
use Rattle.std.specs.List.{list_any, list_all}
use Rattle.std.specs.Str.{bytes_eq}
use Rattle.rational.specs.Compare.{is_zero}
use Rattle.milp.specs.Form.{Entry}
use Rattle.milp.specs.Problem.{Column, Row}

-- entries in ascending order of column, from `least` on and below `count`, none with the coefficient 0
abbrev pub are_entries_from : ℕ → ℕ → List Entry → Bool
are_entries_from least count [] = true
are_entries_from least count (e ∷ es) = nat_le least e.column && (nat_lt e.column count && (not (is_zero e.coefficient) && are_entries_from (e.column + 1) count es))

abbrev pub are_entries : ℕ → List Entry → Bool
are_entries count form = are_entries_from 0 count form

-- a column has this name
abbrev pub has_column : List ℕ → List Column → Bool
has_column name columns = list_any (λ (c : Column). bytes_eq c.name name) columns

-- a row has this name
abbrev pub has_row : List ℕ → List Row → Bool
has_row name rows = list_any (λ (r : Row). bytes_eq r.name name) rows

-- no column has the name of one before it
abbrev pub are_distinct_columns : List Column → List Column → Bool
are_distinct_columns before [] = true
are_distinct_columns before (c ∷ cs) = not (has_column c.name before) && are_distinct_columns (before ++ c ∷ []) cs

-- no row has the name of one before it
abbrev pub are_distinct_rows : List Row → List Row → Bool
are_distinct_rows before [] = true
are_distinct_rows before (r ∷ rs) = not (has_row r.name before) && are_distinct_rows (before ++ r ∷ []) rs

-- the entries of all rows
abbrev pub entry_count : List Row → ℕ
entry_count [] = 0
entry_count (r ∷ rs) = length r.entries + entry_count rs

-- no more columns and rows than an instance takes
pub record IsWithinLimits (cs : List Column) (rs : List Row) : Type 0 where
  pub columns : length cs ≤ 1000000
  pub rows : length rs ≤ 1000000

pub record IsWellFormed (columns : List Column) (rows : List Row) (objective : List Entry) : Type 0 where
  pub objective_form : IsTrue (are_entries (length columns) objective)
  pub row_forms : IsTrue (list_all (λ (r : Row). are_entries (length columns) r.entries) rows)
  pub column_names : IsTrue (are_distinct_columns [] columns)
  pub row_names : IsTrue (are_distinct_rows [] rows)
