-- The test of an optimal point.
use Rattle.std.specs.Prelude.{List, Some}
use Rattle.rational.specs.Rational.{Rational}
use Rattle.milp.specs.Problem.{Problem}
use Rattle.milp.specs.Points.{objective_value}
use Rattle.verdicts.specs.Certificate.{Side, Weights, Derived, Bound}
use Rattle.basis.specs.Node.{IsNodePoint}
use Rattle.search_tree.specs.Nodes.{NodePasses}

-- the point is one of the node's relaxation, and the weights pass the node's test at the point's own value
pub record IsShownOptimum (p : Problem) (ds : List Derived) (sides : List Side) (x : List Rational) (w : Weights) : Type 0 where
  pub point : IsNodePoint p ds sides x
  pub passes : NodePasses p (Some (objective_value p x)) ds sides (Bound w)
