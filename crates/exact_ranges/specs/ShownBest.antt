-- The best point of a certificate of one leaf, and the weights that show it.
use Rattle.std.specs.Prelude.{◌≡◌, true, List, [], ◌∷◌, Option, Some, None, Ok}
use Rattle.rational.specs.Rational.{Rational, zero_ℚ}
use Rattle.milp.specs.Form.{sum_at}
use Rattle.milp.specs.Problem.{Row, Problem}
use Rattle.milp.specs.Points.{Feasible, objective_value}
use Rattle.instance.specs.Sums.{sum_answer}
use Rattle.verdicts.specs.Certificate.{Two, Weights, TreeNode, Branch, Empty, Bound, Certificate}
use Rattle.verdicts.specs.Proves.{node_passes}

abbrev pub numbers_of : Option (List Rational) → List Rational
numbers_of None = []
numbers_of (Some x) = x

abbrev pub no_weights : Weights
no_weights = record { rows = []; columns = []; derived = []; splits = [] }

-- the weights of a leaf without better points
abbrev pub leaf_weights : TreeNode → Weights
leaf_weights (Branch s) = no_weights
leaf_weights (Empty w) = no_weights
leaf_weights (Bound w) = w

-- those of the first node
abbrev pub weights_of : List TreeNode → Weights
weights_of [] = no_weights
weights_of (node ∷ nodes) = leaf_weights node

abbrev pub best_point : Certificate → List Rational
best_point c = numbers_of c.point

abbrev pub best_weights : Certificate → Weights
best_weights c = weights_of c.tree

-- the sum of each row's form at x fits
abbrev pub RowsFit : List Rational → List Row → Type 0
RowsFit x [] = Unit {0}
RowsFit x (r ∷ rs) = (sum_answer x zero_ℚ r.entries ≡ Ok (sum_at x r.entries)) × RowsFit x rs

-- x is best, as the weights show, and the sums of the rows' forms and of the objective's fit there
pub record IsShownBest (p : Problem) (x : List Rational) (w : Weights) : Type 0 where
  pub feasible : Feasible p x
  pub passes : node_passes p Two (Some (objective_value p x)) [] [] (Bound w) ≡ true
  pub rows_fit : RowsFit x p.rows
  pub objective_fits : sum_answer x zero_ℚ p.objective ≡ Ok (sum_at x p.objective)
