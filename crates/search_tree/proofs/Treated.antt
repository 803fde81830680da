-- Nodes that were treated, and optimal points that the simplex method finds.
use Rattle.std.proofs.Common.{List, Option, None}
use Rattle.rational.specs.Rational.{Rational}
use Rattle.milp.specs.Problem.{Problem}
use Rattle.verdicts.specs.Certificate.{Side as SideOf, Weights, Derived}
use Rattle.basis.specs.Dictionary.{Dictionary}
use Rattle.basis.specs.Node.{IsOverColumns}
use Rattle.basis.specs.Relaxation.{IsOptimalRelaxation}
use Rattle.basis.specs.declared.Place.{Place}
use Rattle.basis.proofs.Laws.{optimal_is_best, optimal_point}
use Rattle.search_tree.specs.Nodes.{IsRelaxedOptimum, IsTreated, IsWorthwhile}

pub found_optimum : (p : Problem) (ds : List Derived) (sides : List SideOf) (x : List Rational) (w : Weights) (b : List Place) (d : Dictionary) → IsOverColumns p ds sides → IsOptimalRelaxation p ds sides x w b d → IsRelaxedOptimum p ds sides x
found_optimum p ds sides x w b d over h = record { point = optimal_point p ds sides x w b d over h; none_better = optimal_is_best p ds sides x w b d over h }

pub treated_worthwhile : (p : Problem) (ds : List Derived) (sides : List SideOf) (best : Option Rational) → IsTreated p ds sides best → IsWorthwhile p ds best sides
treated_worthwhile p ds sides best h = record { point = h.point; is_optimum = h.is_optimum; beats = h.beats }

pub treated_stays : (p : Problem) (ds : List Derived) (sides : List SideOf) (best : Option Rational) → IsTreated p ds sides best → IsTreated p ds sides None
treated_stays p ds sides best h = record { point = h.point; is_optimum = h.is_optimum; beats = tt; column = h.column; integer = h.integer; pinned = h.pinned; not_whole = h.not_whole }
