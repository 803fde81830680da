-- A problem each of whose points is optimal: what rests at a point tells its column's number at 0 alone.
use Rattle.std.specs.Prelude.{true, [], ◌∷◌, Some, None, codes}
use Rattle.rational.specs.Rational.{zero_ℚ}
use Rattle.milp.specs.Problem.{Problem}
use Rattle.milp.specs.declared.Direction.TheVariants.{Min}

-- min 0, x >= 0 and whole
abbrev pub any_whole_x : Problem
any_whole_x = record {
  columns = record { name = codes "x"; lower = Some zero_ℚ; upper = None; integer = true } ∷ [];
  rows = [];
  direction = Min;
  objective_name = codes "obj";
  objective = [];
  constant = zero_ℚ;
}
