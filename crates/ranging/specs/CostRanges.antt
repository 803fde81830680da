-- The cost range of a column: the numbers that may stand as its cost while a point stays best.
use Rattle.std.specs.Prelude.{ℕ, List, [], ◌∷◌, ◌==◌, Option, Some, None, if◌then◌else◌}
use Rattle.rational.specs.Rational.{Rational, zero_ℚ, ◌*ℚ◌, ◌≤ℚ◌, ◌<ℚ◌}
use Rattle.milp.specs.Form.{Entry, number_at}
use Rattle.milp.specs.Problem.{Problem}
use Rattle.milp.specs.Points.{Feasible, IsOptimal, objective_value, sign_of}

-- the entries of the other columns
abbrev pub without_column : ℕ → List Entry → List Entry
without_column j [] = []
without_column j (e ∷ es) = if e.column == j then without_column j es else e ∷ without_column j es

-- the problem in which column j has the cost t
abbrev pub with_cost : Problem → ℕ → Rational → Problem
with_cost p j t = record p { objective = record { column = j; coefficient = t } ∷ without_column j p.objective }

-- x is best where column j has the cost t
abbrev pub InCostRange : Problem → List Rational → ℕ → Rational → Type 0
InCostRange p x j t = IsOptimal (with_cost p j t) x

-- the problem in which column j alone has a cost
abbrev pub with_cost_alone : Problem → ℕ → Rational → Problem
with_cost_alone p j t = record p { objective = record { column = j; coefficient = t } ∷ []; constant = zero_ℚ }

-- ---- what shows an end of the range

-- the number of column j, negated where the greatest value is wanted: at a higher cost points with more of it are worse
abbrev pub signed_number : Problem → ℕ → List Rational → Rational
signed_number p j x = sign_of p.direction *ℚ number_at x j

-- y is as good as x where column j has the cost t
abbrev pub IsAsGood : Problem → ℕ → Rational → List Rational → List Rational → Type 0
IsAsGood p j t y x = sign_of p.direction *ℚ objective_value (with_cost p j t) y ≤ℚ sign_of p.direction *ℚ objective_value (with_cost p j t) x

-- x is best at the lowest cost, and a kept point that is as good there is better at all costs below; where there is no
-- lowest cost, no feasible point has a greater signed number
abbrev pub HasLowestCost : Problem → List Rational → ℕ → Option Rational → Type 0
HasLowestCost p x j None = (y : List Rational) → Feasible p y → signed_number p j y ≤ℚ signed_number p j x
HasLowestCost p x j (Some low) = InCostRange p x j low × ((y : List Rational) × Feasible p y × IsAsGood p j low y x × (signed_number p j x <ℚ signed_number p j y))

-- x is best at the highest cost, and a kept point that is as good there is better at all costs above; where there is no
-- highest cost, no feasible point has a smaller signed number
abbrev pub HasHighestCost : Problem → List Rational → ℕ → Option Rational → Type 0
HasHighestCost p x j None = (y : List Rational) → Feasible p y → signed_number p j x ≤ℚ signed_number p j y
HasHighestCost p x j (Some high) = InCostRange p x j high × ((y : List Rational) × Feasible p y × IsAsGood p j high y x × (signed_number p j y <ℚ signed_number p j x))

-- the range holds a number, and both of its ends are shown
pub record HasCostEnds (p : Problem) (x : List Rational) (j : ℕ) (low high : Option Rational) : Type 0 where
  pub cost : Rational
  pub holds : InCostRange p x j cost
  pub lowest : HasLowestCost p x j low
  pub highest : HasHighestCost p x j high
