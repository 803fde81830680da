-- What the search of a cost's auxiliary problem tells of the end of the range.
use Rattle.std.proofs.Common.{◌≡◌, ◌<◌, ℕ, suc, true, List, [], ◌∷◌, length, sym, subst, Option, Some, None}
use Rattle.rational.specs.Rational.{Rational}
use Rattle.milp.specs.Form.{number_at}
use Rattle.milp.specs.Problem.{Problem}
use Rattle.milp.specs.declared.Direction.{Direction}
use Rattle.milp.specs.declared.Direction.TheVariants.{Min, Max}
use Rattle.milp.specs.Points.{Feasible, IsImprovingRay, objective_value}
use Rattle.verdicts.specs.Certificate.{Version, Two, Weights, Bound}
use Rattle.verdicts.specs.Proves.{node_passes}
use Rattle.ranging.specs.CostRanges.{HasLowestCost, HasHighestCost}
use Rattle.ranging.specs.TightBounds.{tight_forms, FormsInRange}
use Rattle.ranging.specs.BoundRanges.{AllContinuous}
use Rattle.ranging.specs.CostAuxiliary.{weight_columns, cost_auxiliary}
use Rattle.exact_ranges.specs.Sought.{End, Least, Greatest, wanted_of}
use Rattle.exact_ranges.specs.Ends.{IsBestOrNone, HasCostEnd}

-- what an optimum, and what a ray shows of an end
abbrev pub OptimaShow : (Problem → List Rational → ℕ → Option Rational → Type 0) → Direction → Type 0
OptimaShow HasEnd wanted = (p : Problem) (x : List Rational) (j : ℕ) (v : Version) (z : List Rational) (w : Weights) →
    FormsInRange p → AllContinuous p → j < length p.columns → Feasible p x → Feasible (cost_auxiliary p x j wanted) z →
    node_passes (cost_auxiliary p x j wanted) v (Some (objective_value (cost_auxiliary p x j wanted) z)) [] [] (Bound w) ≡ true →
    HasEnd p x j (Some (number_at z 0))

abbrev pub RaysShow : (Problem → List Rational → ℕ → Option Rational → Type 0) → Direction → Type 0
RaysShow HasEnd wanted = (p : Problem) (x : List Rational) (j : ℕ) (q : Rational) (vs : List Rational) → FormsInRange p →
    j < length p.columns → IsImprovingRay (cost_auxiliary p x j wanted) (q ∷ vs) → HasEnd p x j None

module _ (HasEnd : Problem → List Rational → ℕ → Option Rational → Type 0) (wanted : Direction) (optima : OptimaShow HasEnd wanted) (rays : RaysShow HasEnd wanted)
    (p : Problem) (x : List Rational) (j : ℕ) (forms : FormsInRange p) (continuous : AllContinuous p) (lt : j < length p.columns) (feasible : Feasible p x) where
  by_ray : (r : List Rational) → IsImprovingRay (cost_auxiliary p x j wanted) r → HasEnd p x j None
  by_ray [] h = let never : 0 ≡ suc (length (weight_columns 1 (tight_forms p x))) = h.size in cc
  by_ray (q ∷ vs) h = rays p x j q vs forms lt h

  by_best : (number : Option Rational) → IsBestOrNone (cost_auxiliary p x j wanted) 0 number → HasEnd p x j number
  by_best None h = by_ray h.1 h.2.ray
  by_best (Some v) h = subst (λ t. HasEnd p x j (Some t)) (sym h.number) (optima p x j Two h.point h.weights forms continuous lt feasible h.is_optimal.feasible h.passes)

pub cost_end : OptimaShow HasLowestCost Min → OptimaShow HasHighestCost Max → RaysShow HasLowestCost Min → RaysShow HasHighestCost Max
    → (p : Problem) (x : List Rational) (j : ℕ) → FormsInRange p → AllContinuous p → j < length p.columns → Feasible p x
    → (e : End) (number : Option Rational) → IsBestOrNone (cost_auxiliary p x j (wanted_of e)) 0 number → HasCostEnd p x j e number
cost_end lowest highest no_lowest no_highest p x j forms continuous lt feasible Least number h = by_best HasLowestCost Min lowest no_lowest p x j forms continuous lt feasible number h
cost_end lowest highest no_lowest no_highest p x j forms continuous lt feasible Greatest number h = by_best HasHighestCost Max highest no_highest p x j forms continuous lt feasible number h
