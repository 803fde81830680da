-- Problems of columns and rows that are named by their places, of which the number of one column is wanted.
use Rattle.std.specs.Prelude.{ℕ, List, [], ◌∷◌, IsTrue}
use Rattle.std.specs.List.{list_all}
use Rattle.rational.specs.Rational.{one_ℚ, zero_ℚ}
use Rattle.milp.specs.Problem.{Column, Row, Problem}
use Rattle.milp.specs.declared.Direction.{Direction}
use Rattle.instance.specs.WellFormed.{are_entries}
use Rattle.ranging.specs.PlaceNames.{named_by_place}

-- each row's form is over this many columns
abbrev pub AreForms : ℕ → List Row → Type 0
AreForms n rs = IsTrue (list_all (λ (r : Row). are_entries n r.entries) rs)

abbrev pub problem_of : List Column → List Row → Direction → ℕ → Problem
problem_of cs rs wanted j = named_by_place (record {
  columns = cs;
  rows = rs;
  direction = wanted;
  objective_name = [];
  objective = record { column = j; coefficient = one_ℚ } ∷ [];
  constant = zero_ℚ;
})
