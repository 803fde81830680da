-- The made problem of so many columns.
use Rattle.std.specs.Prelude.{ℕ, pos, ◌+◌, ◌/◌, nat_le, ◌&&◌, codes, List, [], ◌∷◌, ◌++◌, Option, Some, None, map, if◌then◌else◌}
use Rattle.std.specs.Fmt.{decimal}
use Rattle.std.specs.List.{sum, range_with_len}
use Rattle.rational.specs.Rational.{zero_ℚ, one_ℚ, whole}
use Rattle.milp.specs.Form.{Entry}
use Rattle.milp.specs.Problem.{Column, Row, Problem}
use Rattle.milp.specs.declared.Direction.TheVariants.{Max}
use Rattle.made_problem.specs.Draws.{state_of, every_fourth}

-- a made problem has 1 to 2,000 columns
abbrev pub size_of : ℕ → Option ℕ
size_of count = if nat_le 1 count && nat_le count 2000 then Some count else None

-- the column of this number, from 1 on: `x1`, `x2` and so on, from 0 to 1, the first six of them whole
abbrev pub made_column : ℕ → Column
made_column number = record { name = codes "x" ++ decimal number; lower = Some zero_ℚ; upper = Some one_ℚ; integer = nat_le number 6 }

abbrev pub made_columns : ℕ → List Column
made_columns count = map made_column (range_with_len 1 count)

-- the form with these coefficients, of the columns from a place on
abbrev pub form_from : ℕ → List ℕ → List Entry
form_from place [] = []
form_from place (a ∷ more) = record { column = place; coefficient = whole (pos a) } ∷ form_from (place + 1) more

-- the form with these coefficients is at most half their sum, rounded down
abbrev pub made_row : List ℕ → List ℕ → Row
made_row name coefficients = record { name = name; lower = None; upper = Some (whole (pos (sum coefficients / 2))); entries = form_from 0 coefficients }

-- For each column four numbers are drawn, one column after another: its cost, and its coefficients in the rows `w1`, `w2` and `w3`.
-- The greatest sum of costs is wanted.
abbrev pub made_problem : ℕ → Problem
made_problem count = record {
  columns = made_columns count;
  rows = made_row (codes "w1") (every_fourth (state_of 2) count)
      ∷ made_row (codes "w2") (every_fourth (state_of 3) count)
      ∷ made_row (codes "w3") (every_fourth (state_of 4) count)
      ∷ [];
  direction = Max;
  objective_name = codes "obj";
  objective = form_from 0 (every_fourth (state_of 1) count);
  constant = zero_ℚ;
}
