-- Operations of the tests at a node that do not fit.
use Rattle.std.specs.Prelude.{ℕ, ◌≡◌, List, Some, Err, slice_get}
use Rattle.rational.specs.Rational.{Rational, zero_ℚ}
use Rattle.milp.specs.Form.{sum_at}
use Rattle.milp.specs.Problem.{Row, Problem}
use Rattle.fraction.specs.declared.frac.NoFit.{NoFit}
use Rattle.instance.specs.Sums.{sum_answer}
use Rattle.verdicts.specs.Certificate.{Side, Low, High, Weights, Derived, Bound}
use Rattle.certificate.specs.Ways.{side_of}
use Rattle.cert_check.specs.Sums.{next_answer}
use Rattle.cert_check.specs.Parts.{node_answer}
use Rattle.search_node.specs.Sides.{sides_of}
use Rattle.search_node.specs.declared.node.SplitTaken.{SplitTaken}
use Rattle.search_tree.specs.Work.{node_setting}

-- the first operation that does not fit in the sum of a row at the point
pub record IsRowFault (rows : List Row) (x : List Rational) (e : NoFit) : Type 0 where
  pub place : ℕ
  pub row : Row
  pub there : slice_get rows place ≡ Some row
  pub fault : sum_answer x zero_ℚ row.entries ≡ Err e

-- the first operation that does not fit in the sum of a cut at the point
pub record IsCutFault (ds : List Derived) (x : List Rational) (e : NoFit) : Type 0 where
  pub place : ℕ
  pub cut : Derived
  pub there : slice_get ds place ≡ Some cut
  pub fault : sum_answer x zero_ℚ cut.form ≡ Err e

-- the whole number above a split's does not fit, and the side begins there
abbrev pub IsSideFault : Side → NoFit → Type 0
IsSideFault (Low s) e = ⊥
IsSideFault (High s) e = next_answer s.at ≡ Err e

-- the same at one of the splits that were taken
pub record AreSideFaults (taken : List SplitTaken) (e : NoFit) : Type 0 where
  pub place : ℕ
  pub split : SplitTaken
  pub there : slice_get taken place ≡ Some split
  pub fault : IsSideFault (side_of split.split split.side) e

-- an operation of the test of a point of a node's relaxation that does not fit
pub data IsPointFault (p : Problem) (ds : List Derived) (taken : List SplitTaken) (x : List Rational) (e : NoFit) : Type 0 where
  in_row : IsRowFault p.rows x e → IsPointFault p ds taken x e
  in_cut : IsCutFault ds x e → IsPointFault p ds taken x e
  in_side : AreSideFaults taken e → IsPointFault p ds taken x e

-- an operation of the test of an optimal point that does not fit: of the test of the point, of the sum of the objective's
-- form there, or of the test of the weights at that sum
pub data IsOptimumFault (p : Problem) (ds : List Derived) (taken : List SplitTaken) (x : List Rational) (w : Weights) (e : NoFit) : Type 0 where
  of_point : IsPointFault p ds taken x e → IsOptimumFault p ds taken x w e
  of_value : sum_answer x zero_ℚ p.objective ≡ Err e → IsOptimumFault p ds taken x w e
  of_weights : node_answer (node_setting p ds (sides_of taken)) (Some (sum_at x p.objective)) (Bound w) ≡ Err e → IsOptimumFault p ds taken x w e
