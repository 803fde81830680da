-- What the rule leads to from a state of a run.
use Rattle.std.proofs.Common.{◌≡◌, ◌∙◌, ℕ, ◌<◌, List, refl, sym, ap, subst, arith, Bool, true, false, Option, Some, slice_get, ◌⊎◌, inl, inr}
use Rattle.std.specs.Prelude.{pos, negsuc, Result, Ok, Err, IfErr}
use Rattle.rational.specs.Rational.{Rational, zero_ℚ, one_ℚ, whole, neg_ℚ, ◌+ℚ◌, ◌*ℚ◌, ◌≤ℚ◌, ◌<ℚ◌}
use Rattle.rational.proofs.Laws as Q
use Rattle.milp.specs.Form.{number_at}
use Rattle.rational.specs.Compare.{is_less}
use Rattle.rational.proofs.Laws.{less_true, less_false}
use Rattle.verdicts.proofs.Laws.{minus_one-mul}
use Rattle.basis.specs.System.{Bounds, System, size}
use Rattle.basis.specs.Dictionary.{IsBasic, IsResting, RestsAt, rate_of, gain_of}
use Rattle.basis.specs.Bland.{exchanged, IsOutside, HasPassed, IsLeast, Improves, MendStep, ImproveStep, IsHeading, IsDirection, Reaches, ReachesNone, BlandStep, IsOptimalBasis}
use Rattle.basis.specs.Operations.{IsBoundAt, IsRunOperation}
use Rattle.basis.specs.Relaxation.{IsUnboundedBasis}
use Rattle.basis.specs.declared.Place.{Place}
use Rattle.basis.specs.declared.Place.TheVariants.{Basic, AtLower, AtUpper, AtZero}
use Rattle.basis.proofs.Laws.{neg_above, neg_below, mend_exchanges, improve_exchanges, none_outside_inside, basic_known}
use Rattle.fraction.specs.declared.frac.NoFit.{NoFit}
use Rattle.dictionary.specs.Table.{Table, dictionary_of}
use Rattle.dictionary.specs.Values.{direction_of}
use Rattle.simplex.specs.Ratio.{turned, along, IsStepFault, IsWayFault, IsLengthFault, IsFirstReach}
use Rattle.simplex.specs.Run.{IsRunFault}
use Rattle.simplex.specs.Steps.{IsReached, IsStep, bound_at}
use Rattle.simplex.specs.declared.ratio.Reach.{Reach}
use Rattle.simplex.specs.declared.decision.Step.{Step}
use Rattle.simplex.proofs.Choices.{lower_at, upper_at}
use Rattle.dictionary.proofs.Laws.{is_direction}
use Rattle.simplex.proofs.RatioLemmas.{way_fault}

if_err : {X : Type 0} (r : Result X NoFit) (P R : NoFit → Type 0) → ((e : NoFit) → P e → R e) → IfErr r P → IfErr r R
if_err (Ok u) P R f h = tt
if_err (Err e) P R f h = f e h

-- ---- directions

pub direction_rate : (t : Table) (q v : ℕ) → IsResting t.places q → IsBasic t.places v → direction_of t q v ≡ rate_of (dictionary_of t) q v
direction_rate t q v h k = (is_direction t q h).basics v k ∙ Q.one-mul _

minus_one : neg_ℚ one_ℚ ≡ whole (negsuc 0)
minus_one = sym (minus_one-mul one_ℚ) ∙ Q.mul-one (whole (negsuc 0))

turned_zero : (rises : Bool) → turned rises zero_ℚ ≡ zero_ℚ
turned_zero true = refl
turned_zero false = sym (Q.zero-add (neg_ℚ zero_ℚ)) ∙ Q.add-neg zero_ℚ

turned_times : (rises : Bool) (c : Rational) → turned rises (one_ℚ *ℚ c) ≡ turned rises one_ℚ *ℚ c
turned_times true c = refl
turned_times false c = sym (Q.neg_mul one_ℚ c)

pub turned_direction : (t : Table) (q : ℕ) (rises : Bool) → IsResting t.places q → IsDirection t.places (dictionary_of t) q (turned rises one_ℚ) (along t q rises)
turned_direction t q rises h = let d = is_direction t q h in record {
  mover = ap (turned rises) d.mover;
  others = λ v r n. ap (turned rises) (d.others v r n) ∙ turned_zero rises;
  basics = λ v b. ap (turned rises) (d.basics v b) ∙ turned_times rises _;
}

-- ---- bounds that are passed

pub bound_rests : (s : System) (x : ℕ → Rational) (v : ℕ) (p : Place) (b : Bounds) (o : Option Rational) (bound : Rational) → HasPassed s x v p → slice_get s.bounds v ≡ Some b → o ≡ bound_at b p → o ≡ Some bound
    → IsBoundAt s v p bound
bound_rests s x v Basic b o bound h e f g = absurd h
bound_rests s x v AtZero b o bound h e f g = absurd h
bound_rests s x v AtLower b o bound h e f g = lower_at s v b e ∙ sym f ∙ g
bound_rests s x v AtUpper b o bound h e f g = upper_at s v b e ∙ sym f ∙ g

pub mend_moves : (s : System) (t : Table) (xs : List Rational) (q v : ℕ) (p : Place) → MendStep s t.places (number_at xs) (dictionary_of t) q v p → ¬ ((direction_of t q v).numerator ≡ pos 0)
mend_moves s t xs q v p m = let k = mend_exchanges s t.places (number_at xs) (dictionary_of t) q v p m in
    λ e. k.3 (ap (λ (u : Rational). u.numerator) (sym (direction_rate t q v k.2 k.1)) ∙ e)

-- ---- from a state of a run

module _ (s : System) (t : Table) (xs : List Rational) (bases : List (List Place)) (at : IsReached s t xs bases) where
  mending_fault : (q v : ℕ) (p : Place) (bound : Rational) (e : NoFit) → MendStep s t.places (number_at xs) (dictionary_of t) q v p → IsBoundAt s v p bound → IsWayFault xs t q v bound e → IsRunFault s e
  mending_fault q v p bound e m at_bound f = record {
    operation = IsRunOperation.of_mending t.places at.before (dictionary_of t) (number_at xs) q v p bound at.is_state.is_run at.is_state.is_dictionary at.is_state.is_point m at_bound f.operation;
    not_fit = f.not_fit;
  }

  -- a basic variable is known
  pub basic_below : (v : ℕ) → IsBasic t.places v → v < size s
  basic_below v h = let k = basic_known t.places v h in let e = at.is_state.is_dictionary.size in omega arith

  pub way_back_fault : (q v : ℕ) (p : Place) (b : Bounds) (o : Option Rational) (a bound : Rational) (r : Result Rational NoFit) → MendStep s t.places (number_at xs) (dictionary_of t) q v p → slice_get s.bounds v ≡ Some b
      → o ≡ bound_at b p → o ≡ Some bound → (v < size s → a ≡ number_at xs v) → IfErr r (IsStepFault t q v a bound) → IfErr r (IsRunFault s)
  way_back_fault q v p b o a bound r m e f g read h =
      let known = basic_below v m.first_outside.holds.basic in
      if_err r (IsStepFault t q v a bound) (IsRunFault s) (λ d k. mending_fault q v p bound d m (bound_rests s (number_at xs) v p b o bound m.passed e f g) (way_fault t xs q v a bound d (read known) k)) h

  bland_step : (step : Step)
      → MendStep s t.places (number_at xs) (dictionary_of t) step.enters step.leaves step.place ⊎ ImproveStep s t.places (number_at xs) (dictionary_of t) step.enters step.leaves step.place
      → BlandStep s t.places (exchanged t.places step.enters step.leaves step.place)
  bland_step step h = record {
    in_order = at.in_order;
    dictionary = dictionary_of t;
    is_dictionary = at.is_state.is_dictionary;
    point = number_at xs;
    is_point = at.is_state.is_point;
    enters = step.enters;
    leaves = step.leaves;
    place = step.place;
    chosen = h;
    exchange = refl;
  }

  pub mend_step : (step : Step) → MendStep s t.places (number_at xs) (dictionary_of t) step.enters step.leaves step.place
      → RestsAt s step.place step.leaves (number_at xs step.leaves +ℚ step.by *ℚ direction_of t step.enters step.leaves) → IsStep s t xs step
  mend_step step m lands = let k = mend_exchanges s t.places (number_at xs) (dictionary_of t) step.enters step.leaves step.place m in
      record { is_step = bland_step step (inl m); stops = k.0; enters = k.2; leaves = inr (k.1, k.3); lands = lands }

  heads : (q : ℕ) (rises : Bool) (gain : Rational) → gain ≡ gain_of (dictionary_of t) q → rises ≡ is_less gain zero_ℚ → Improves s t.places (number_at xs) (dictionary_of t) q → IsHeading (dictionary_of t) q (turned rises one_ℚ)
  heads q true gain e f h = let P : Rational → Type 0 = λ g. g <ℚ zero_ℚ in inl (subst P e (less_true gain zero_ℚ (sym f)), refl)
  heads q false gain e f h = inr (let P : Rational → Type 0 = λ g. zero_ℚ <ℚ g in subst P e above, minus_one)
    where
      least : zero_ℚ ≤ℚ gain
      least = less_false gain zero_ℚ (sym f)

      above : zero_ℚ <ℚ gain
      above = elim h.can_improve [
        | inl k ↦ absurd (Q.lt-not-le gain zero_ℚ (falls (subst (λ g. zero_ℚ <ℚ neg_ℚ g) (sym e) k.0)) least)
        | inr k ↦ rises_by (subst (λ g. neg_ℚ g <ℚ zero_ℚ) (sym e) k.0)
      ]
        where
          falls : zero_ℚ <ℚ neg_ℚ gain → gain <ℚ zero_ℚ
          falls w = subst (λ g. g <ℚ zero_ℚ) (Q.neg_neg gain) (neg_above (neg_ℚ gain) w)

          rises_by : neg_ℚ gain <ℚ zero_ℚ → zero_ℚ <ℚ gain
          rises_by w = subst (λ g. zero_ℚ <ℚ g) (Q.neg_neg gain) (neg_below (neg_ℚ gain) w)

  pub improving_fault : (q : ℕ) (rises : Bool) (gain : Rational) (e : NoFit) → ((v : ℕ) → ¬ (IsOutside s t.places (number_at xs) v)) → IsLeast (Improves s t.places (number_at xs) (dictionary_of t)) q
      → gain ≡ gain_of (dictionary_of t) q → rises ≡ is_less gain zero_ℚ → IsLengthFault s xs t q rises e → IsRunFault s e
  improving_fault q rises gain e inside first g r f = record {
    operation = IsRunOperation.of_improving t.places at.before (dictionary_of t) (number_at xs) q (turned rises one_ℚ) (along t q rises) f.variable f.bound at.is_state.is_run at.is_state.is_dictionary at.is_state.is_point
        inside first (heads q rises gain g r first.holds) (turned_direction t q rises first.holds.resting) f.known f.ahead f.fault.operation;
    not_fit = f.fault.not_fit;
  }

  pub is_optimal : ((v : ℕ) → ¬ (IsOutside s t.places (number_at xs) v)) → ((q : ℕ) → ¬ (Improves s t.places (number_at xs) (dictionary_of t) q)) → IsOptimalBasis s t.places (dictionary_of t) (number_at xs)
  is_optimal inside none = record {
    before = at.before;
    is_run = at.is_state.is_run;
    is_dictionary = at.is_state.is_dictionary;
    is_point = at.is_state.is_point;
    inside = none_outside_inside s t.places (number_at xs) at.in_order at.is_state.is_dictionary.size at.is_state.is_point inside;
    none_improves = none;
  }

  module _ (q : ℕ) (rises : Bool) (gain : Rational) (inside : (v : ℕ) → ¬ (IsOutside s t.places (number_at xs) v)) (first : IsLeast (Improves s t.places (number_at xs) (dictionary_of t)) q)
      (is_gain : gain ≡ gain_of (dictionary_of t) q) (test : rises ≡ is_less gain zero_ℚ) where
    pub is_endless : ReachesNone s (number_at xs) (along t q rises) → IsUnboundedBasis s t.places (dictionary_of t) (number_at xs) q (along t q rises)
    is_endless none = record {
      before = at.before;
      is_run = at.is_state.is_run;
      is_dictionary = at.is_state.is_dictionary;
      is_point = at.is_state.is_point;
      inside = none_outside_inside s t.places (number_at xs) at.in_order at.is_state.is_dictionary.size at.is_state.is_point inside;
      first_improving = first;
      heading = turned rises one_ℚ;
      is_heading = heads q rises gain is_gain test first.holds;
      is_direction = turned_direction t q rises first.holds.resting;
      reaches_none = none;
    }

    improve_step : (reach : Reach) → IsFirstReach s (number_at xs) (along t q rises) (Some reach) → ImproveStep s t.places (number_at xs) (dictionary_of t) q reach.variable reach.place
    improve_step reach h = record {
      none_outside = inside;
      first_improving = first;
      heading = turned rises one_ℚ;
      is_heading = heads q rises gain is_gain test first.holds;
      direction = along t q rises;
      is_direction = turned_direction t q rises first.holds.resting;
      step = reach.step;
      known = h.0;
      reaches = h.1;
      first = h.2;
    }

    arrived : (v : ℕ) (p : Place) (u : Rational) → Reaches s (number_at xs) (along t q rises) u v p → RestsAt s p v (number_at xs v +ℚ turned rises u *ℚ direction_of t q v)
    arrived v p u h = let R : Rational → Type 0 = λ a. RestsAt s p v (number_at xs v +ℚ a) in subst R (turned_back rises u (direction_of t q v)) (there p h)
      where
        there : (o : Place) → Reaches s (number_at xs) (along t q rises) u v o → RestsAt s o v (number_at xs v +ℚ u *ℚ along t q rises v)
        there Basic k = absurd k
        there AtLower k = k.1
        there AtUpper k = k.1
        there AtZero k = absurd k

        turned_back : (b : Bool) (a c : Rational) → a *ℚ turned b c ≡ turned b a *ℚ c
        turned_back true a c = refl
        turned_back false a c = Q.mul_neg a c ∙ sym (Q.neg_mul a c)

    pub enter_step : (reach : Reach) (by : Rational) → by ≡ turned rises reach.step → IsFirstReach s (number_at xs) (along t q rises) (Some reach)
        → IsStep s t xs (record { enters = q; leaves = reach.variable; place = reach.place; by = by })
    enter_step reach by e h =
        let step : Step = record { enters = q; leaves = reach.variable; place = reach.place; by = by } in
        let m = improve_step reach h in
        let k = improve_exchanges s t.places (number_at xs) (dictionary_of t) q reach.variable reach.place at.is_state.is_dictionary m in
        record {
          is_step = bland_step step (inr m);
          stops = k.0;
          enters = k.1;
          leaves = k.2;
          lands = let R : Rational → Type 0 = λ a. RestsAt s reach.place reach.variable (number_at xs reach.variable +ℚ a *ℚ direction_of t q reach.variable) in
              subst R (sym e) (arrived reach.variable reach.place reach.step h.1);
        }
