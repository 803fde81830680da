-- Five small problems.
use Rattle.std.specs.Prelude.{pos, negsuc, Bool, true, false, List, [], ◌∷◌, Option, Some, None, codes}
use Rattle.rational.specs.Rational.{Rational, zero_ℚ, one_ℚ, whole}
use Rattle.milp.specs.Form.{Entry}
use Rattle.milp.specs.Problem.{Row, Problem}
use Rattle.verdicts.specs.Certificate.{Split}
use Rattle.certificate.specs.Written.{column_split}
use Rattle.milp.specs.declared.Direction.TheVariants.{Min}

-- the form a * x
abbrev pub times_x : Rational → List Entry
times_x a = record { column = 0; coefficient = a } ∷ []

-- the least value of a form over x >= 0, where these rows hold
abbrev pub over_x : Bool → List Row → List Entry → Problem
over_x integer rows form = record {
  columns = record { name = codes "x"; lower = Some zero_ℚ; upper = None; integer = integer } ∷ [];
  rows = rows;
  direction = Min;
  objective_name = codes "obj";
  objective = form;
  constant = zero_ℚ;
}

-- the row a * x, inside these bounds
abbrev pub row_of_x : Rational → Option Rational → Option Rational → Row
row_of_x a lower upper = record { name = codes "r"; lower = lower; upper = upper; entries = times_x a }

-- min -2 x, x >= 0
abbrev pub endless : Problem
endless = over_x false [] (times_x (whole (negsuc 1)))

-- min -x, x <= 2, x >= 0, where the first bound is a row's
abbrev pub pivoted : Problem
pivoted = over_x false (row_of_x one_ℚ None (Some (whole (pos 2))) ∷ []) (times_x (whole (negsuc 0)))

-- min x, 1 <= 3 x <= 2, x >= 0 and whole
abbrev pub parted : Problem
parted = over_x true (row_of_x (whole (pos 3)) (Some one_ℚ) (Some (whole (pos 2))) ∷ []) (times_x one_ℚ)

-- the split of x at 0
abbrev pub at_zero : Split
at_zero = column_split 0 (pos 0)

-- min 0, x >= 0 and whole
abbrev pub any_whole : Problem
any_whole = over_x true [] []

-- min x, 2 <= x <= 5 and whole
abbrev pub least_whole : Problem
least_whole = record (over_x true [] (times_x one_ℚ)) { columns = record { name = codes "x"; lower = Some (whole (pos 2)); upper = Some (whole (pos 5)); integer = true } ∷ [] }
