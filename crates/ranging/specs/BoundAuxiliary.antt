-- The auxiliary problem of a bound's end. Its columns are those of the problem and, free and last, the distance that the
-- bound moves; its rows are the value that the weights promise, the row with the moved bound, and the others.
use Rattle.std.specs.Prelude.{ℕ, negsuc, zero, suc, List, [], ◌∷◌, ◌++◌, length, Some, None, false}
use Rattle.rational.specs.Rational.{Rational, zero_ℚ, one_ℚ, whole, neg_ℚ}
use Rattle.milp.specs.Form.{Entry}
use Rattle.milp.specs.Problem.{Column, Row, Problem}
use Rattle.milp.specs.declared.Direction.{Direction}
use Rattle.milp.specs.Points.{sign_of}
use Rattle.verdicts.specs.WeightedSums.{scaled}
use Rattle.ranging.specs.BoundRanges.{BoundSide, Lower, Upper, UsedBound}
use Rattle.ranging.specs.CostAuxiliary.{entry_unless_zero}
use Rattle.ranging.specs.PlaceNames.{named_by_place}

-- the row without its bound on this side
abbrev pub without_side : BoundSide → Row → Row
without_side Lower r = record r { lower = None }
without_side Upper r = record r { upper = None }

-- the rows, the i-th without its bound on this side
abbrev pub without_row_bound : ℕ → BoundSide → List Row → List Row
without_row_bound i s [] = []
without_row_bound zero s (r ∷ rs) = without_side s r ∷ rs
without_row_bound (suc i) s (r ∷ rs) = r ∷ without_row_bound i s rs

-- the form less the distance, which is column n
abbrev pub less_distance : ℕ → List Entry → List Entry
less_distance n es = es ++ record { column = n; coefficient = whole (negsuc 0) } ∷ []

-- the form less the distance is inside the bound b
abbrev pub moved_row : ℕ → BoundSide → Rational → Row → Row
moved_row n Lower b r = record { name = []; lower = Some b; upper = None; entries = less_distance n r.entries }
moved_row n Upper b r = record { name = []; lower = None; upper = Some b; entries = less_distance n r.entries }

-- row i with the bound b moved by the distance
abbrev pub moved_at : ℕ → ℕ → BoundSide → Rational → List Row → Row
moved_at n i s b [] = record { name = []; lower = None; upper = None; entries = [] }
moved_at n zero s b (r ∷ rs) = moved_row n s b r
moved_at n (suc i) s b (r ∷ rs) = moved_at n i s b rs

-- the value changes with the distance as the weights promise
abbrev pub value_row : Problem → UsedBound → Row
value_row p u = record {
  name = [];
  lower = Some u.total;
  upper = Some u.total;
  entries = scaled (sign_of p.direction) p.objective ++ entry_unless_zero (length p.columns) (neg_ℚ u.weight) [];
}

-- the distance
abbrev pub free_column : Column
free_column = record { name = []; lower = None; upper = None; integer = false }

-- with the names of the problem's own columns and rows
abbrev pub unnamed_auxiliary : Problem → UsedBound → Direction → Problem
unnamed_auxiliary p u wanted = record {
  columns = p.columns ++ free_column ∷ [];
  rows = value_row p u ∷ moved_at (length p.columns) u.row u.side u.bound p.rows ∷ without_row_bound u.row u.side p.rows;
  direction = wanted;
  objective_name = [];
  objective = record { column = length p.columns; coefficient = one_ℚ } ∷ [];
  constant = zero_ℚ;
}

-- the least distance is wanted, or the greatest
abbrev pub bound_auxiliary : Problem → UsedBound → Direction → Problem
bound_auxiliary p u wanted = named_by_place (unnamed_auxiliary p u wanted)
