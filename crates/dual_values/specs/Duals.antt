-- The dual values of a problem by a certificate that shows a best point: 1 or -1, the sign of the direction, times the sum of the
-- weights that the certificate has on a column or a row. There are none where a column is integer, or the certificate has a derived
-- row or more than one leaf.
use Rattle.std.specs.Prelude.{ℕ, suc, ◌==◌, Bool, false, ◌||◌, List, [], ◌∷◌, map, Option, Some, None, Result, Ok, Err, if◌then◌else◌}
use Rattle.rational.specs.Rational.{Rational, zero_ℚ, ◌*ℚ◌}
use Rattle.milp.specs.declared.Direction.{Direction}
use Rattle.milp.specs.Points.{sign_of}
use Rattle.milp.specs.Problem.{Column, Problem}
use Rattle.verdicts.specs.Certificate.{Item, Weights, Derived, TreeNode, Branch, Empty, Bound, Certificate}
use Rattle.fraction.specs.Answers.{add_answer}
use Rattle.fraction.specs.declared.frac.NoFit.{NoFit}
use Rattle.gmpl_solution.specs.declared.dual.Dual.{Dual}
use Rattle.gmpl_solution.specs.declared.dual.Dual.TheVariants.{Number, NoFit as Unfit, Missing}
use Rattle.gmpl_solution.specs.Solution.{Duals}

-- ---- sums of weights, or the first that does not fit

abbrev pub of_sum : Result Rational NoFit → Dual
of_sum (Ok q) = Number q
of_sum (Err f) = Unfit f

abbrev pub plus : Dual → Rational → Dual
plus (Number q) w = of_sum (add_answer q w)
plus (Unfit f) w = Unfit f
plus Missing w = Missing

-- with the weights on place k, one after another
abbrev pub summed : ℕ → List Item → Dual → Dual
summed k [] d = d
summed k (i ∷ is) d = summed k is (if i.index == k then plus d i.weight else d)

-- of place k, of the next one, and so on
abbrev pub sums_from : ℕ → List Item → List Dual → List Dual
sums_from k is [] = []
sums_from k is (d ∷ ds) = summed k is d ∷ sums_from (suc k) is ds

-- in the sign of the direction
abbrev pub directed : Direction → Dual → Dual
directed direction (Number q) = Number (sign_of direction *ℚ q)
directed direction (Unfit f) = Unfit f
directed direction Missing = Missing

-- for each place, from 0 on, the sum of its weights, in that sign
abbrev pub dual_list : {A : Type 0} → Direction → List Item → List A → List Dual
dual_list direction is places = map (directed direction) (sums_from 0 is (map (λ _. Number zero_ℚ) places))

-- for each place none
abbrev pub missing_list : {A : Type 0} → List A → List Dual
missing_list places = map (λ _. Missing) places

-- ---- the weights of a certificate

-- of a tree that is one leaf
abbrev pub of_leaf : List TreeNode → Option Weights
of_leaf [] = None
of_leaf (Branch s ∷ nodes) = None
of_leaf (Empty w ∷ []) = Some w
of_leaf (Empty w ∷ node ∷ nodes) = None
of_leaf (Bound w ∷ []) = Some w
of_leaf (Bound w ∷ node ∷ nodes) = None

-- without derived rows
abbrev pub of_tree : List Derived → List TreeNode → Option Weights
of_tree [] nodes = of_leaf nodes
of_tree (d ∷ ds) nodes = None

abbrev pub has_integer : List Column → Bool
has_integer [] = false
has_integer (c ∷ cs) = c.integer || has_integer cs

-- the only weights of a certificate of a problem without integer columns
abbrev pub only_weights : Problem → Certificate → Option Weights
only_weights p c = if has_integer p.columns then None else of_tree c.derived c.tree

-- ---- the dual values

abbrev pub duals_by : Problem → Option Weights → Duals
duals_by p None = record {
  columns = missing_list p.columns;
  rows = missing_list p.rows;
  elsewhere = Missing;
}
duals_by p (Some w) = record {
  columns = dual_list p.direction w.columns p.columns;
  rows = dual_list p.direction w.rows p.rows;
  elsewhere = Number zero_ℚ;
}

abbrev pub duals_of : Problem → Certificate → Duals
duals_of p c = duals_by p (only_weights p c)
