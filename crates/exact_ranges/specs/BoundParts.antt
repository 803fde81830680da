-- The parts of a bound's auxiliary problem.
use Rattle.std.specs.Prelude.{ℕ, ◌+◌, ◌==◌, ◌≡◌, cond, List, [], ◌∷◌, ◌++◌, length}
use Rattle.rational.specs.Rational.{Rational, ◌*ℚ◌}
use Rattle.milp.specs.Form.{sum_at}
use Rattle.milp.specs.Problem.{Column, Row, Problem}
use Rattle.milp.specs.Points.{sign_of}
use Rattle.verdicts.specs.Certificate.{Weights}
use Rattle.ranging.specs.BoundRanges.{BoundSide, UsedBound, weight_using}
use Rattle.ranging.specs.BoundAuxiliary.{without_side, without_row_bound, moved_at, value_row, free_column}
use Rattle.exact_ranges.specs.Sought.{Side, side_of, HasBound}
pub use Rattle.exact_ranges.specs.declared.used.Used.{Used}

-- the bound b of row i, as the weights of a best point x use it
abbrev pub used_at : Problem → List Rational → Weights → ℕ → Side → Rational → Used
used_at p x w i s b = record {
  row = i;
  side = s;
  bound = b;
  weight = weight_using i (side_of s) w.rows;
  total = sign_of p.direction *ℚ sum_at x p.objective;
}

-- the bound as the definitions have it
abbrev pub used_of : Used → UsedBound
used_of u = record { row = u.row; side = side_of u.side; bound = u.bound; weight = u.weight; total = u.total }

abbrev pub bound_columns : Problem → List Column
bound_columns p = p.columns ++ free_column ∷ []

abbrev pub bound_rows : Problem → UsedBound → List Row
bound_rows p u = value_row p u ∷ moved_at (length p.columns) u.row u.side u.bound p.rows ∷ without_row_bound u.row u.side p.rows

-- the rows from place k on, the i-th without its bound on this side
abbrev pub without_at : ℕ → ℕ → BoundSide → List Row → List Row
without_at k i s [] = []
without_at k i s (r ∷ rs) = cond (k == i) (without_side s r) r ∷ without_at (k + 1) i s rs

-- the bound is one that the problem has, as the weights use it
pub record IsUsed (p : Problem) (x : List Rational) (w : Weights) (u : Used) : Type 0 where
  pub there : HasBound p u.row u.side u.bound
  pub is : u ≡ used_at p x w u.row u.side u.bound
