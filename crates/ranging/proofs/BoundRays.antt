-- A ray of the auxiliary problem shows that a bound's range has no end there.
use Rattle.std.proofs.Common.{◌≡◌, ◌∙◌, List, refl, sym, ap, length, None, inl, inr}
use mathlib.Core.Path.{ap₂}
use Rattle.std.specs.Prelude.{negsuc}
use Rattle.rational.specs.Rational.{Rational, ◌≤ℚ◌, ◌<ℚ◌, ◌+ℚ◌, ◌-ℚ◌, ◌*ℚ◌, neg_ℚ, inv_ℚ, zero_ℚ, one_ℚ, whole}
use Rattle.rational.proofs.Laws as Q
use Rattle.rational.proofs.Laws.{signs}
use Rattle.milp.specs.Form.{number_at, sum_at}
use Rattle.milp.specs.Problem.{Problem}
use Rattle.milp.specs.declared.Direction.{Direction}
use Rattle.milp.specs.declared.Direction.TheVariants.{Min, Max}
use Rattle.milp.specs.Points.{IsUnbounded}
use Rattle.verdicts.proofs.Laws.{le_by, neg-zero, minus_one-mul}
use Rattle.ranging.specs.TightBounds.{FormsInRange}
use Rattle.ranging.specs.BoundRanges.{UsedBound, InBoundRange, HasLeastBound, HasGreatestBound, AllContinuous}
use Rattle.ranging.specs.BoundAuxiliary.{unnamed_auxiliary, bound_auxiliary}
use Rattle.ranging.proofs.Order.{apart, le_or_less, difference_less, lt_by, neg_less}
use Rattle.ranging.proofs.Mixtures.{mixed_number}
use Rattle.ranging.proofs.Directions.{along, along_feasible, steps, enough}
use Rattle.ranging.proofs.BoundPoints.{auxiliary_continuous, point_in_range}
use Rattle.ranging.proofs.PlaceNames.{unnamed_unbounded}

back : (v t : Rational) → one_ℚ *ℚ v +ℚ (t -ℚ v) ≡ t
back v t = ap (λ y. y +ℚ (t -ℚ v)) (Q.one-mul v) ∙ ap (λ y. v +ℚ y) (Q.add_comm t (neg_ℚ v)) ∙ Q.cancel_left v t

-- a ray that goes up in the distance leads to any distance above
distances_above : (p : Problem) (u : UsedBound) (d : Direction) (z r : List Rational) → FormsInRange p → AllContinuous p → IsUnbounded (unnamed_auxiliary p u d) z r → zero_ℚ <ℚ number_at r (length p.columns) → (t : Rational) → (e : Rational) × (t ≤ℚ e) × InBoundRange p u (u.bound +ℚ e)
distances_above p u d z r f n h rises t = elim (le_or_less t (number_at z (length p.columns))) [
  | inl k ↦ (number_at z (length p.columns), k, point_in_range p u d z f n h.feasible)
  | inr k ↦
      let v = number_at z (length p.columns) in
      let q = (t -ℚ v) *ℚ inv_ℚ (number_at r (length p.columns)) in
      let e : length z ≡ length r = h.feasible.relaxed.size ∙ sym h.ray.size in
      let there : number_at (along q z r) (length p.columns) ≡ t = mixed_number one_ℚ q z r (length p.columns) e ∙ ap (λ y. one_ℚ *ℚ v +ℚ y) (steps v t (number_at r (length p.columns)) rises) ∙ back v t in
      (number_at (along q z r) (length p.columns), le_by _ _ _ _ refl there (Q.le_refl t), point_in_range p u d (along q z r) f n (along_feasible (unnamed_auxiliary p u d) q z r (auxiliary_continuous p u d n) (enough v t (number_at r (length p.columns)) (Q.le_of_lt _ _ k) rises) h))
]

-- a ray that goes down in the distance leads to any distance below
distances_below : (p : Problem) (u : UsedBound) (d : Direction) (z r : List Rational) → FormsInRange p → AllContinuous p → IsUnbounded (unnamed_auxiliary p u d) z r → number_at r (length p.columns) <ℚ zero_ℚ → (t : Rational) → (e : Rational) × (e ≤ℚ t) × InBoundRange p u (u.bound +ℚ e)
distances_below p u d z r f n h falls t = elim (le_or_less (number_at z (length p.columns)) t) [
  | inl k ↦ (number_at z (length p.columns), k, point_in_range p u d z f n h.feasible)
  | inr k ↦
      let v = number_at z (length p.columns) in
      let m = zero_ℚ -ℚ number_at r (length p.columns) in
      let above : zero_ℚ <ℚ m = difference_less _ _ falls in
      let q = (v -ℚ t) *ℚ inv_ℚ m in
      let e : length z ≡ length r = h.feasible.relaxed.size ∙ sym h.ray.size in
      let there : number_at (along q z r) (length p.columns) ≡ t = mixed_number one_ℚ q z r (length p.columns) e ∙ ap (λ y. one_ℚ *ℚ v +ℚ y) (turned q (number_at r (length p.columns)) ∙ ap neg_ℚ (steps t v m above)) ∙ less v t in
      (number_at (along q z r) (length p.columns), le_by _ _ _ _ there refl (Q.le_refl t), point_in_range p u d (along q z r) f n (along_feasible (unnamed_auxiliary p u d) q z r (auxiliary_continuous p u d n) (enough t v m (Q.le_of_lt _ _ k) above) h))
]
  where
    turned : (q d : Rational) → q *ℚ d ≡ neg_ℚ (q *ℚ (zero_ℚ -ℚ d))
    turned q d = sym (ap neg_ℚ (ap (λ y. q *ℚ y) (Q.zero-add (neg_ℚ d)) ∙ Q.mul_neg q d) ∙ Q.neg_neg (q *ℚ d))

    less : (v t : Rational) → one_ℚ *ℚ v +ℚ neg_ℚ (v -ℚ t) ≡ t
    less v t = ap₂ ◌+ℚ◌ (Q.one-mul v) (negated v t) ∙ Q.cancel_left v t
      where
        negated : (v t : Rational) → neg_ℚ (v -ℚ t) ≡ neg_ℚ v +ℚ t
        negated v t = simp signs

ray_number : (p : Problem) (u : UsedBound) (d : Direction) (r : List Rational) → sum_at r (unnamed_auxiliary p u d).objective ≡ number_at r (length p.columns)
ray_number p u d r = Q.add-zero _ ∙ Q.one-mul _

pub ray_shows_no_least : (p : Problem) (u : UsedBound) (z r : List Rational) → FormsInRange p → AllContinuous p → IsUnbounded (bound_auxiliary p u Min) z r → HasLeastBound p u None
ray_shows_no_least p u z r f n named t =
    let h = unnamed_unbounded (unnamed_auxiliary p u Min) z r named in
    let far = distances_below p u Min z r f n h (lt_by (sym (Q.one-mul _ ∙ ray_number p u Min r)) refl h.ray.improves) (t -ℚ u.bound) in
    (u.bound +ℚ far.0, le_by _ _ _ _ refl (apart u.bound t) (Q.add-le-add _ _ _ _ (Q.le_refl u.bound) far.1), far.2)

pub ray_shows_no_greatest : (p : Problem) (u : UsedBound) (z r : List Rational) → FormsInRange p → AllContinuous p → IsUnbounded (bound_auxiliary p u Max) z r → HasGreatestBound p u None
ray_shows_no_greatest p u z r f n named t =
    let h = unnamed_unbounded (unnamed_auxiliary p u Max) z r named in
    let far = distances_above p u Max z r f n h (rise (number_at r (length p.columns)) (lt_by (sym (ap (λ y. whole (negsuc 0) *ℚ y) (ray_number p u Max r) ∙ minus_one-mul _)) refl h.ray.improves)) (t -ℚ u.bound) in
    (u.bound +ℚ far.0, le_by _ _ _ _ (apart u.bound t) refl (Q.add-le-add _ _ _ _ (Q.le_refl u.bound) far.1), far.2)
  where
    rise : (v : Rational) → neg_ℚ v <ℚ zero_ℚ → zero_ℚ <ℚ v
    rise v h = lt_by (sym neg-zero) (sym (Q.neg_neg v)) (neg_less h)
