-- What the search of an auxiliary problem tells of the end of a range.
use Rattle.std.specs.Prelude.{ℕ, ◌≡◌, true, List, [], Option, Some, None}
use Rattle.rational.specs.Rational.{Rational}
use Rattle.milp.specs.Form.{number_at}
use Rattle.milp.specs.Problem.{Problem}
use Rattle.milp.specs.Points.{IsOptimal, IsUnbounded, objective_value}
use Rattle.verdicts.specs.Certificate.{Two, Weights, Bound}
use Rattle.verdicts.specs.Proves.{node_passes}
use Rattle.ranging.specs.CostRanges.{HasLowestCost, HasHighestCost}
use Rattle.ranging.specs.BoundRanges.{UsedBound, HasLeastBound, HasGreatestBound}
use Rattle.exact_ranges.specs.Sought.{End, Least, Greatest}

-- v is the number of column j at a best point, which weights show
pub record IsBestNumber (q : Problem) (j : ℕ) (v : Rational) : Type 0 where
  pub point : List Rational
  pub weights : Weights
  pub is_optimal : IsOptimal q point
  pub passes : node_passes q Two (Some (objective_value q point)) [] [] (Bound weights) ≡ true
  pub number : v ≡ number_at point j

-- a best number of column j, or a ray that improves the problem without end
abbrev pub IsBestOrNone : Problem → ℕ → Option Rational → Type 0
IsBestOrNone q j None = (z : List Rational) × (r : List Rational) × IsUnbounded q z r
IsBestOrNone q j (Some v) = IsBestNumber q j v

abbrev pub HasCostEnd : Problem → List Rational → ℕ → End → Option Rational → Type 0
HasCostEnd p x j Least number = HasLowestCost p x j number
HasCostEnd p x j Greatest number = HasHighestCost p x j number

abbrev pub HasBoundEnd : Problem → UsedBound → End → Option Rational → Type 0
HasBoundEnd p u Least number = HasLeastBound p u number
HasBoundEnd p u Greatest number = HasGreatestBound p u number
