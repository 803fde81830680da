-- Columns by their names.
use Rattle.std.specs.Prelude.{ℕ, Bool, List, Some, None}
use Rattle.std.specs.Str.{bytes_eq}
use Rattle.rational.specs.Rational.{zero_ℚ}
use Rattle.milp.specs.Problem.{Column}

abbrev pub is_column_named : List ℕ → Column → Bool
is_column_named name c = bytes_eq c.name name

-- a column begins at 0 without an upper bound
abbrev pub new_column : List ℕ → Bool → Column
new_column name integer = record { name = name; lower = Some zero_ℚ; upper = None; integer = integer }
