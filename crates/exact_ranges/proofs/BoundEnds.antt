-- What the search of a bound's auxiliary problem tells of the end of the range.
use Rattle.std.proofs.Common.{◌≡◌, ◌∙◌, List, length, sym, ap, subst, Option, Some, None}
use Rattle.rational.specs.Rational.{Rational, ◌+ℚ◌}
use Rattle.milp.specs.Form.{number_at}
use Rattle.milp.specs.Problem.{Problem}
use Rattle.milp.specs.declared.Direction.{Direction}
use Rattle.milp.specs.declared.Direction.TheVariants.{Min, Max}
use Rattle.milp.specs.Points.{IsOptimal, IsUnbounded}
use Rattle.ranging.specs.TightBounds.{FormsInRange}
use Rattle.ranging.specs.BoundRanges.{UsedBound, HasLeastBound, HasGreatestBound, AllContinuous}
use Rattle.ranging.specs.BoundAuxiliary.{bound_auxiliary}
use Rattle.exact_ranges.specs.Sought.{End, Least, Greatest, wanted_of}
use Rattle.exact_ranges.specs.Ends.{IsBestNumber, IsBestOrNone, HasBoundEnd}

-- what an optimum, and what a ray shows of an end
abbrev pub OptimaShow : (Problem → UsedBound → Option Rational → Type 0) → Direction → Type 0
OptimaShow HasEnd wanted = (p : Problem) (u : UsedBound) (z : List Rational) → FormsInRange p → AllContinuous p →
    IsOptimal (bound_auxiliary p u wanted) z → HasEnd p u (Some (u.bound +ℚ number_at z (length p.columns)))

abbrev pub RaysShow : (Problem → UsedBound → Option Rational → Type 0) → Direction → Type 0
RaysShow HasEnd wanted = (p : Problem) (u : UsedBound) (z r : List Rational) → FormsInRange p → AllContinuous p →
    IsUnbounded (bound_auxiliary p u wanted) z r → HasEnd p u None

module _ (p : Problem) (u : UsedBound) (forms : FormsInRange p) (continuous : AllContinuous p) where
  by_best : (HasEnd : Problem → UsedBound → Option Rational → Type 0) (wanted : Direction) → OptimaShow HasEnd wanted → (d v : Rational) → IsBestNumber (bound_auxiliary p u wanted) (length p.columns) d → v ≡ u.bound +ℚ d → HasEnd p u (Some v)
  by_best HasEnd wanted optima d v h e =
      let same : u.bound +ℚ number_at h.point (length p.columns) ≡ v = ap (λ (y : Rational). u.bound +ℚ y) (sym h.number) ∙ sym e in
      subst (λ t. HasEnd p u (Some t)) same (optima p u h.point forms continuous h.is_optimal)

  pub moved_end : OptimaShow HasLeastBound Min → OptimaShow HasGreatestBound Max → (e : End) (d v : Rational) → IsBestNumber (bound_auxiliary p u (wanted_of e)) (length p.columns) d → v ≡ u.bound +ℚ d → HasBoundEnd p u e (Some v)
  moved_end least greatest Least d v h is = by_best HasLeastBound Min least d v h is
  moved_end least greatest Greatest d v h is = by_best HasGreatestBound Max greatest d v h is

  pub no_end : RaysShow HasLeastBound Min → RaysShow HasGreatestBound Max → (e : End) → IsBestOrNone (bound_auxiliary p u (wanted_of e)) (length p.columns) None → HasBoundEnd p u e None
  no_end least greatest Least h = least p u h.0 h.1 forms continuous h.2
  no_end least greatest Greatest h = greatest p u h.0 h.1 forms continuous h.2
