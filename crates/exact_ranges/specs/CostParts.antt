-- The parts of a cost's auxiliary problem, without names.
use Rattle.std.specs.Prelude.{ℕ, ◌+◌, ◌==◌, cond, false, List, [], ◌∷◌, ◌++◌, Some, None}
use Rattle.rational.specs.Rational.{zero_ℚ, neg_ℚ, ◌*ℚ◌}
use Rattle.milp.specs.Form.{Entry}
use Rattle.milp.specs.Problem.{Column, Row, Problem}
use Rattle.milp.specs.declared.Direction.{Direction}
use Rattle.milp.specs.Points.{sign_of}
use Rattle.verdicts.specs.WeightedSums.{coefficient_of}
use Rattle.ranging.specs.CostAuxiliary.{entry_unless_zero}
use Rattle.ranging.specs.BoundAuxiliary.{free_column}
pub use Rattle.exact_ranges.specs.declared.table.AtColumn.{AtColumn}

abbrev pub weight_column : Column
weight_column = record { name = []; lower = Some zero_ℚ; upper = None; integer = false }

-- a weight for each form
abbrev pub weights_for : List (List Entry) → List Column
weights_for [] = []
weights_for (f ∷ fs) = weight_column ∷ weights_for fs

-- the cost, and the weights
abbrev pub cost_columns : List (List Entry) → List Column
cost_columns fs = free_column ∷ weights_for fs

-- what each form has at column k, the first form's weight being column i
abbrev pub entries_from : ℕ → ℕ → List (List Entry) → List Entry
entries_from k i [] = []
entries_from k i (f ∷ fs) = entry_unless_zero i (coefficient_of f k) [] ++ entries_from k (i + 1) fs

-- what stands at column k: its cost, with the sign of the direction, and what the forms have there
abbrev pub at_column : Problem → List (List Entry) → ℕ → AtColumn
at_column p fs k = record { cost = sign_of p.direction *ℚ coefficient_of p.objective k; weights = entries_from k 1 fs }

-- of these columns, of which the first is column k
abbrev pub table_from : Problem → List (List Entry) → ℕ → List Column → List AtColumn
table_from p fs k [] = []
table_from p fs k (c ∷ cs) = at_column p fs k ∷ table_from p fs (k + 1) cs

-- the row of column k, where the cost of column j is the unknown one
abbrev pub row_at : Direction → ℕ → ℕ → AtColumn → Row
row_at d j k a = record {
  name = [];
  lower = Some (cond (k == j) zero_ℚ a.cost);
  upper = Some (cond (k == j) zero_ℚ a.cost);
  entries = entry_unless_zero 0 (cond (k == j) (neg_ℚ (sign_of d)) zero_ℚ) a.weights;
}

abbrev pub rows_from : Direction → ℕ → ℕ → List AtColumn → List Row
rows_from d j k [] = []
rows_from d j k (a ∷ more) = row_at d j k a ∷ rows_from d j (k + 1) more
