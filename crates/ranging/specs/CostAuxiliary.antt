-- The auxiliary problem of a cost's end. Its columns are the cost, free, and a weight from 0 on for each bound that is tight
-- at the point; its rows say that the weighted sum of the tight forms is the objective with that cost.
use Rattle.std.specs.Prelude.{ℕ, zero, suc, List, [], ◌∷◌, length, ◌==◌, cond, false, Some, None, if◌then◌else◌}
use Rattle.rational.specs.Rational.{Rational, zero_ℚ, one_ℚ, neg_ℚ, ◌*ℚ◌}
use Rattle.rational.specs.Compare.{is_zero}
use Rattle.milp.specs.Form.{Entry}
use Rattle.milp.specs.Problem.{Column, Row, Problem}
use Rattle.milp.specs.declared.Direction.{Direction}
use Rattle.milp.specs.Points.{sign_of}
use Rattle.verdicts.specs.WeightedSums.{coefficient_of}
use Rattle.ranging.specs.TightBounds.{tight_forms}
use Rattle.ranging.specs.PlaceNames.{column_name, row_name}

-- the entry and the rest, where its coefficient is not 0
abbrev pub entry_unless_zero : ℕ → Rational → List Entry → List Entry
entry_unless_zero i c rest = if is_zero c then rest else record { column = i; coefficient = c } ∷ rest

-- what each form has at column k, the first form's weight being column i
abbrev pub coefficients_at : ℕ → ℕ → List (List Entry) → List Entry
coefficients_at k i [] = []
coefficients_at k i (f ∷ fs) = entry_unless_zero i (coefficient_of f k) (coefficients_at k (suc i) fs)

-- what the cost has in the row of column k: something in that of its own column j alone
abbrev pub cost_coefficient : Problem → ℕ → ℕ → Rational
cost_coefficient p j k = cond (k == j) (neg_ℚ (sign_of p.direction)) zero_ℚ

-- what stands on the right in the row of column k: the given cost, for each other column than j
abbrev pub given_cost : Problem → ℕ → ℕ → Rational
given_cost p j k = cond (k == j) zero_ℚ (sign_of p.direction *ℚ coefficient_of p.objective k)

-- the sum of the weighted forms at column k, less the cost where it is column j's, is the given cost
abbrev pub cost_row : Problem → List Rational → ℕ → ℕ → Row
cost_row p x j k = record {
  name = row_name k;
  lower = Some (given_cost p j k);
  upper = Some (given_cost p j k);
  entries = entry_unless_zero 0 (cost_coefficient p j k) (coefficients_at k 1 (tight_forms p x));
}

-- the rows of n columns from column k on
abbrev pub cost_rows : Problem → List Rational → ℕ → ℕ → ℕ → List Row
cost_rows p x j k zero = []
cost_rows p x j k (suc n) = cost_row p x j k ∷ cost_rows p x j (suc k) n

-- a weight for each form, from column i on
abbrev pub weight_columns : ℕ → List (List Entry) → List Column
weight_columns i [] = []
weight_columns i (f ∷ fs) = record { name = column_name i; lower = Some zero_ℚ; upper = None; integer = false } ∷ weight_columns (suc i) fs

-- the least cost is wanted, or the greatest
abbrev pub cost_auxiliary : Problem → List Rational → ℕ → Direction → Problem
cost_auxiliary p x j wanted = record {
  columns = record { name = column_name 0; lower = None; upper = None; integer = false } ∷ weight_columns 1 (tight_forms p x);
  rows = cost_rows p x j 0 (length p.columns);
  direction = wanted;
  objective_name = [];
  objective = record { column = 0; coefficient = one_ℚ } ∷ [];
  constant = zero_ℚ;
}
