-- What the ends of a run show.
use Rattle.std.proofs.Common.{List, length, sym, subst}
use Rattle.rational.specs.Rational.{Rational}
use Rattle.milp.specs.Problem.{Problem}
use Rattle.milp.specs.Points.{IsImprovingRay}
use Rattle.verdicts.specs.Certificate.{Side, Weights, Derived}
use Rattle.basis.specs.Dictionary.{Dictionary}
use Rattle.basis.specs.Node.{IsOverColumns, IsNodePoint}
use Rattle.basis.specs.Weights.{numbers_from}
use Rattle.basis.specs.Relaxation.{IsOptimalRelaxation, IsUnboundedRelaxation, ShowsObjective}
use Rattle.basis.specs.declared.Place.{Place}
use Rattle.basis.proofs.NodePoints.{node_point}
use Rattle.basis.proofs.Optimal.{optimal_shows}
use Rattle.basis.proofs.NodeRays.{improving_ray}

pub optimal_point : (p : Problem) (ds : List Derived) (sides : List Side) (x : List Rational) (w : Weights) (b : List Place) (d : Dictionary) → IsOverColumns p ds sides → IsOptimalRelaxation p ds sides x w b d → IsNodePoint p ds sides x
optimal_point p ds sides x w b d over h = subst (IsNodePoint p ds sides) (sym h.point) (node_point p ds sides over h.values h.is_optimal.is_point.solves h.is_optimal.inside)

pub optimal_weights_show : (p : Problem) (ds : List Derived) (sides : List Side) (x : List Rational) (w : Weights) (b : List Place) (d : Dictionary) → IsOverColumns p ds sides → IsOptimalRelaxation p ds sides x w b d → ShowsObjective p ds sides x w
optimal_weights_show p ds sides x w b d over h =
    let P : List Rational → Type 0 = λ y. ShowsObjective p ds sides y w in
    let R : Weights → Type 0 = λ u. ShowsObjective p ds sides (numbers_from 0 (length p.columns) h.values) u in
    subst P (sym h.point) (subst R (sym h.weights) (optimal_shows p ds sides b d h.values over h.is_optimal))

pub unbounded_point : (p : Problem) (ds : List Derived) (sides : List Side) (x ray : List Rational) → IsOverColumns p ds sides → IsUnboundedRelaxation p ds sides x ray → IsNodePoint p ds sides x
unbounded_point p ds sides x ray over h = subst (IsNodePoint p ds sides) (sym h.point) (node_point p ds sides over h.values h.is_unbounded.is_point.solves h.is_unbounded.inside)

pub unbounded_ray : (p : Problem) (ds : List Derived) (sides : List Side) (x ray : List Rational) → IsOverColumns p ds sides → IsUnboundedRelaxation p ds sides x ray → IsImprovingRay p ray
unbounded_ray p ds sides x ray over h = subst (IsImprovingRay p) (sym h.is_ray) (improving_ray p ds sides over h.basis h.dictionary h.values h.mover h.direction h.is_unbounded)
