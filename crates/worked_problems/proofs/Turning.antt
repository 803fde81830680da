-- A run of one step: the row leaves to a bound, and x enters.
use Rattle.std.proofs.Common.{◌≡◌, ◌∙◌, ℕ, zero, suc, ◌+◌, ◌<◌, ◌≢◌, ◌⊎◌, List, [], ◌∷◌, length, true, Option, Some, None, refl, sym, ap, subst, arith, inl, inr}
use mathlib.Core.Path.{ap₂}
use Rattle.std.specs.Prelude.{pos, negsuc, IfSome, slice_get}
use Rattle.rational.specs.Rational.{Rational, zero_ℚ, one_ℚ, whole, inv_ℚ, neg_ℚ, ◌+ℚ◌, ◌-ℚ◌, ◌*ℚ◌, ◌≤ℚ◌, ◌<ℚ◌}
use Rattle.rational.proofs.Laws as Q
use Rattle.milp.specs.Form.{value_at}
use Rattle.basis.specs.System.{System, Satisfies}
use Rattle.basis.specs.Dictionary.{IsBasic, IsResting, Dictionary, Solves, IsDictionary, rate_of, gain_of, RestsAt, IsBasicPoint}
use Rattle.basis.specs.Bland.{HasPassed, IsOutside, CanRaise, MendStep, Improves, IsHeading, IsDirection, BlandStep, IsFinal, IsRun, IsOptimalBasis}
use Rattle.basis.specs.Pivots.{Operation, Plus, Minus, Times, DividedBy, IsRowOf, IsPivotOperation, IsLengthOperation, IsMoveOperation}
use Rattle.basis.specs.Relaxation.{IsBlocked, IsUnboundedBasis}
use Rattle.basis.specs.Operations.{IsBoundAt, LiesAhead, IsRunOperation}
use Rattle.basis.specs.declared.Place.{Place}
use Rattle.basis.specs.declared.Place.TheVariants.{Basic, AtLower, AtUpper}
use Rattle.basis.proofs.Laws.{same_gains}
use Rattle.simplex.specs.Run.{IsLimited}
use Rattle.worked_problems.proofs.Fitting.{fits_by, same_fits}
use Rattle.worked_problems.proofs.OneRow.{BasisLaws, one_row, first, basic_is_row, resting_is_x, start_is_first, x_is, row_is, gain_is, rate_is, rate_else, mends_row, start_fits}

-- x from 0 on
abbrev pub turning : Rational → Option Rational → Option Rational → Rational → System
turning a lo hi g = one_row zero_ℚ None a lo hi g

abbrev pub second : Place → List Place
second place = Basic ∷ place ∷ []

-- ---- equations

undone : (a b : Rational) → ¬ (a.numerator ≡ pos 0) → inv_ℚ a *ℚ (a *ℚ b) ≡ b
undone a b some = sym (Q.mul_assoc (inv_ℚ a) a b) ∙ ap (λ t. t *ℚ b) (Q.mul_comm (inv_ℚ a) a ∙ Q.mul-inv a some) ∙ Q.one-mul b

of_x : (a x r : Rational) → ¬ (a.numerator ≡ pos 0) → r ≡ a *ℚ x +ℚ zero_ℚ → x ≡ inv_ℚ a *ℚ r
of_x a x r some e = sym (undone a x some) ∙ ap (λ t. inv_ℚ a *ℚ t) (sym (e ∙ Q.add-zero (a *ℚ x)))

of_row : (a x r : Rational) → ¬ (a.numerator ≡ pos 0) → x ≡ inv_ℚ a *ℚ r +ℚ zero_ℚ → r ≡ a *ℚ x +ℚ zero_ℚ
of_row a x r some e = sym (Q.inv_left a r some) ∙ ap (λ t. a *ℚ t) (sym (e ∙ Q.add-zero (inv_ℚ a *ℚ r))) ∙ sym (Q.add-zero (a *ℚ x))

never_one : one_ℚ ≡ zero_ℚ → ⊥
never_one e = let f : pos 1 ≡ pos 0 = ap (λ (a : Rational). a.numerator) e in cc

-- ---- the dictionary after the step

abbrev pub after : Rational → Rational → Dictionary
after a g = record { row = λ v. record { column = 1; coefficient = inv_ℚ a } ∷ []; objective = record { column = 1; coefficient = g *ℚ inv_ℚ a } ∷ [] }

module _ (place : Place) (stops : place ≢ Basic) where
  basic_is_x : (v : ℕ) → IsBasic (second place) v → v ≡ 0
  basic_is_x zero e = refl
  basic_is_x (suc zero) e = absurd (stops e)
  basic_is_x (suc (suc v)) e = cc

  resting_is_row : (q : ℕ) → IsResting (second place) q → q ≡ 1
  resting_is_row zero h = absurd (h.not_basic refl)
  resting_is_row (suc zero) h = refl
  resting_is_row (suc (suc q)) h = absurd (let known = h.known in omega arith)

  row_rests : IsResting (second place) 1
  row_rests = record { known = omega arith; not_basic = stops }

  module _ (a : Rational) (lo hi : Option Rational) (g : Rational) (some : ¬ (a.numerator ≡ pos 0)) where
    solves : (x : ℕ → Rational) → Satisfies (turning a lo hi g) x → Solves (second place) (after a g) x
    solves x h = record { values = λ v basic. at_x v (basic_is_x v basic) }
      where
        at_x : (v : ℕ) → v ≡ 0 → x v ≡ inv_ℚ a *ℚ x 1 +ℚ zero_ℚ
        at_x v e = ap x e ∙ of_x a (x 0) (x 1) some (h.values 0) ∙ sym (Q.add-zero (inv_ℚ a *ℚ x 1))

    satisfies : (x : ℕ → Rational) → Solves (second place) (after a g) x → Satisfies (turning a lo hi g) x
    satisfies x h = record { values = values }
      where
        values : (k : ℕ) → IfSome (slice_get ((turning a lo hi g).forms) k) (λ form. x (1 + k) ≡ value_at x form)
        values zero = of_row a (x 0) (x 1) some (h.values 0 refl)
        values (suc k) = tt

    same_objective : (x : ℕ → Rational) → Satisfies (turning a lo hi g) x → g *ℚ x 0 +ℚ zero_ℚ ≡ (g *ℚ inv_ℚ a) *ℚ x 1 +ℚ zero_ℚ
    same_objective x h = ap (λ t. t +ℚ zero_ℚ) (ap (λ t. g *ℚ t) (of_x a (x 0) (x 1) some (h.values 0)) ∙ sym (Q.mul_assoc g (inv_ℚ a) (x 1)))

    pub after_is_dictionary : IsDictionary (turning a lo hi g) (second place) (after a g)
    after_is_dictionary = record {
      size = refl;
      over_resting = record { rows = λ v basic. (row_rests, tt); objective = (row_rests, tt) };
      same_points = λ x. (solves x, satisfies x);
      same_objective = same_objective;
    }

    pub row_gain : (d : Dictionary) → IsDictionary (turning a lo hi g) (second place) d → gain_of d 1 ≡ g *ℚ inv_ℚ a
    row_gain d h = same_gains (turning a lo hi g) (second place) d (after a g) h after_is_dictionary 1 ∙ Q.add-zero (g *ℚ inv_ℚ a)

    pub x_gain : (d : Dictionary) → IsDictionary (turning a lo hi g) (second place) d → gain_of d 0 ≡ zero_ℚ
    x_gain d h = same_gains (turning a lo hi g) (second place) d (after a g) h after_is_dictionary 0 ∙ Q.add-zero zero_ℚ

-- ---- what is asked of the step

-- the operations of the run fit
pub record DoFit (a bound g : Rational) : Type 0 where
  pub start_product : fits_by Times a zero_ℚ ≡ true
  pub start_sum : fits_by Plus zero_ℚ (a *ℚ zero_ℚ) ≡ true
  pub way : fits_by Minus bound zero_ℚ ≡ true
  pub way_length : fits_by DividedBy (bound -ℚ zero_ℚ) a ≡ true
  pub mover : fits_by Plus zero_ℚ (inv_ℚ a *ℚ bound) ≡ true
  pub move_product : fits_by Times a (inv_ℚ a *ℚ bound) ≡ true
  pub move_sum : fits_by Plus (a *ℚ (inv_ℚ a *ℚ bound)) zero_ℚ ≡ true
  pub reciprocal : fits_by DividedBy (whole (negsuc 0)) a ≡ true
  pub quotient : fits_by DividedBy a a ≡ true
  pub zero_quotient : fits_by DividedBy zero_ℚ a ≡ true
  pub row_product : fits_by Times a (inv_ℚ a) ≡ true
  pub row_sum : fits_by Plus (a *ℚ inv_ℚ a) zero_ℚ ≡ true
  pub gain_product : fits_by Times g (inv_ℚ a) ≡ true
  pub gain_sum : fits_by Plus (g *ℚ inv_ℚ a) zero_ℚ ≡ true

-- the step is made, to this bound; no other bound is on the way, and behind it no step leads on
pub record Turns (a : Rational) (lo hi : Option Rational) (g : Rational) (place : Place) (bound : Rational) : Type 0 where
  pub some : ¬ (a.numerator ≡ pos 0)
  pub stops : place ≢ Basic
  pub rests : (v : Rational) → RestsAt (turning a lo hi g) place 1 v → v ≡ bound
  pub goes : BlandStep (turning a lo hi g) first (second place)
  pub inside : zero_ℚ ≤ℚ inv_ℚ a *ℚ bound
  pub settled : (x : ℕ → Rational) → x 1 ≡ bound → ¬ (CanRaise (turning a lo hi g) x 1 (neg_ℚ (g *ℚ inv_ℚ a)))
  pub mends : (x : ℕ → Rational) (d : Dictionary) (to : Place) (b : Rational) → IsBasicPoint (turning a lo hi g) first x → MendStep (turning a lo hi g) first x d 0 1 to → IsBoundAt (turning a lo hi g) 1 to b → b ≡ bound
  pub improves : (x : ℕ → Rational) (d : Dictionary) (heading : Rational) (r : ℕ → Rational) (v : ℕ) (b : Rational) → IsDictionary (turning a lo hi g) first d → IsBasicPoint (turning a lo hi g) first x
      → ((w : ℕ) → ¬ (IsOutside (turning a lo hi g) first x w)) → IsHeading d 0 heading → IsDirection first d 0 heading r → v < 2 → LiesAhead (turning a lo hi g) v (r v) b → (v ≡ 1) × (b ≡ bound)
  pub fit : DoFit a bound g

module _ (a : Rational) (lo hi : Option Rational) (g : Rational) (place : Place) (bound : Rational) (laws : BasisLaws) (t : Turns a lo hi g place bound) where
  -- ---- behind the step

  pub row_behind : (x : ℕ → Rational) → IsBasicPoint (turning a lo hi g) (second place) x → x 1 ≡ bound
  row_behind x h = t.rests (x 1) (h.rests 1 (omega arith))

  pub x_behind : (x : ℕ → Rational) → IsBasicPoint (turning a lo hi g) (second place) x → x 0 ≡ inv_ℚ a *ℚ bound
  x_behind x h = of_x a (x 0) (x 1) t.some (h.solves.values 0) ∙ ap (λ r. inv_ℚ a *ℚ r) (row_behind x h)

  none_outside : (x : ℕ → Rational) (v : ℕ) → IsBasicPoint (turning a lo hi g) (second place) x → ¬ (IsOutside (turning a lo hi g) (second place) x v)
  none_outside x v h k = go (subst (λ w. HasPassed (turning a lo hi g) x w AtLower ⊎ HasPassed (turning a lo hi g) x w AtUpper) (basic_is_x place t.stops v k.basic) k.outside)
    where
      go : HasPassed (turning a lo hi g) x 0 AtLower ⊎ HasPassed (turning a lo hi g) x 0 AtUpper → ⊥
      go (inl m) = let lower : Some zero_ℚ ≡ Some m.0 = m.1 in let same : m.0 ≡ zero_ℚ = cc in Q.lt-not-le _ _ (subst (λ y. y <ℚ zero_ℚ) (x_behind x h) (subst (λ y. x 0 <ℚ y) same m.2)) t.inside
      go (inr m) = let none : None ≡ Some m.0 = m.1 in cc

  pub none_improves : (d : Dictionary) (x : ℕ → Rational) (q : ℕ) → IsDictionary (turning a lo hi g) (second place) d → IsBasicPoint (turning a lo hi g) (second place) x → ¬ (Improves (turning a lo hi g) (second place) x d q)
  none_improves d x q h k m =
      t.settled x (row_behind x k) (subst (λ y. CanRaise (turning a lo hi g) x 1 (neg_ℚ y)) (row_gain place t.stops a lo hi g t.some d h)
      (subst (λ w. CanRaise (turning a lo hi g) x w (neg_ℚ (gain_of d w))) (resting_is_row place t.stops q m.resting) m.can_improve))

  final : IsFinal (turning a lo hi g) (second place)
  final c h = elim h.chosen [
    | inl m ↦ none_outside h.point h.leaves h.is_point m.first_outside.holds
    | inr m ↦ none_improves h.dictionary h.point h.enters h.is_dictionary h.is_point m.first_improving.holds
  ]

  -- ---- runs

  step_behind : (b next : List Place) → (b ≡ first) ⊎ (b ≡ second place) → BlandStep (turning a lo hi g) b next → (b ≡ first) × (next ≡ second place)
  step_behind b next (inl e) step = (e, laws.steps (turning a lo hi g) first next (second place) (subst (λ c. BlandStep (turning a lo hi g) c next) e step) t.goes)
  step_behind b next (inr e) step = absurd (final next (subst (λ c. BlandStep (turning a lo hi g) c next) e step))

  one_or_two : (b : List Place) (before : List (List Place)) → IsRun (turning a lo hi g) b before → (b ≡ first) ⊎ (b ≡ second place)
  one_or_two b [] h = inl (start_is_first zero_ℚ None a lo hi g b h)
  one_or_two b (c ∷ before) h = inr ((step_behind c b (one_or_two c before h.1) h.0).1)

  step_is : (b next : List Place) (before : List (List Place)) → IsRun (turning a lo hi g) next (b ∷ before) → (b ≡ first) × (next ≡ second place)
  step_is b next before h = step_behind b next (one_or_two b before h.1) h.0

  pub never_limited : (limit : ℕ) (bases : List (List Place)) → ¬ (IsLimited (turning a lo hi g) limit bases)
  never_limited limit bases h = go h.before h.is_limit.is_run h.is_limit.steps
    where
      go : (before : List (List Place)) → IsRun (turning a lo hi g) h.last before → length before ≡ limit → ⊥
      go [] run e = h.some (sym e)
      go (c ∷ before) run e = final h.is_limit.next (subst (λ b. BlandStep (turning a lo hi g) b h.is_limit.next) (step_is c h.last before run).1 h.is_limit.one_more)

  -- a basis of a run from which no step leads on
  pub end_is_second : (b : List Place) (before : List (List Place)) → IsRun (turning a lo hi g) b before → IsFinal (turning a lo hi g) b → b ≡ second place
  end_is_second b before run ends = elim (one_or_two b before run) [
    | inl e ↦ absurd (ends (second place) (subst (λ c. BlandStep (turning a lo hi g) c (second place)) (sym e) t.goes))
    | inr e ↦ e
  ]

  -- ---- where the run ends

  pub never_unbounded : (b : List Place) (d : Dictionary) (x : ℕ → Rational) (q : ℕ) (r : ℕ → Rational) → ¬ (IsUnboundedBasis (turning a lo hi g) b d x q r)
  never_unbounded b d x q r u =
      let e = end_is_second b u.before u.is_run (laws.unbounded (turning a lo hi g) b d x q r u) in
      none_improves d x q (subst (λ c. IsDictionary (turning a lo hi g) c d) e u.is_dictionary) (subst (λ c. IsBasicPoint (turning a lo hi g) c x) e u.is_point)
      (subst (λ c. Improves (turning a lo hi g) c x d q) e u.first_improving.holds)

  pub never_blocked : (b : List Place) (d : Dictionary) (x : ℕ → Rational) (r : ℕ) (to : Place) → ¬ (IsBlocked (turning a lo hi g) b d x r to)
  never_blocked b d x r to h =
      let e = end_is_second b h.before h.is_run (laws.blocked (turning a lo hi g) b d x r to h) in
      none_outside x r (subst (λ c. IsBasicPoint (turning a lo hi g) c x) e h.is_point) (subst (λ c. IsOutside (turning a lo hi g) c x r) e h.first_outside.holds)

  module _ (b : List Place) (d : Dictionary) (x : ℕ → Rational) (h : IsOptimalBasis (turning a lo hi g) b d x) where
    at_end : b ≡ second place
    at_end = end_is_second b h.before h.is_run (laws.optimal (turning a lo hi g) b d x h)

    pub optimal_x : x 0 ≡ inv_ℚ a *ℚ bound
    optimal_x = x_behind x (subst (λ c. IsBasicPoint (turning a lo hi g) c x) at_end h.is_point)

    pub optimal_row_gain : gain_of d 1 ≡ g *ℚ inv_ℚ a
    optimal_row_gain = row_gain place t.stops a lo hi g t.some d (subst (λ c. IsDictionary (turning a lo hi g) c d) at_end h.is_dictionary)

    pub optimal_x_gain : gain_of d 0 ≡ zero_ℚ
    optimal_x_gain = x_gain place t.stops a lo hi g t.some d (subst (λ c. IsDictionary (turning a lo hi g) c d) at_end h.is_dictionary)

  -- ---- operations

  module _ (d : Dictionary) (h : IsDictionary (turning a lo hi g) first d) where
    rate : rate_of d 0 1 ≡ a
    rate = rate_is zero_ℚ None a lo hi g laws d h

    module _ (x : ℕ → Rational) (k : IsBasicPoint (turning a lo hi g) first x) where
      row_at_zero : x 1 ≡ zero_ℚ
      row_at_zero = row_is zero_ℚ None a lo hi g x k ∙ Q.mul-zero a

      lengths_fit : (q v : ℕ) (to n : Rational) (op : Operation) (c : Rational) → q ≡ 0 → v ≡ 1 → to ≡ bound → IsLengthOperation first x d q v to n op c → fits_by op n c ≡ true
      lengths_fit q v to n op c p m e (IsLengthOperation.way f o l) = same_fits op Minus n bound c zero_ℚ (f ∙ e) o (l ∙ ap x m ∙ row_at_zero) t.fit.way
      lengths_fit q v to n op c p m e (IsLengthOperation.length basic f o l) =
          same_fits op DividedBy n (bound -ℚ zero_ℚ) c a (f ∙ ap₂ (λ y z. y -ℚ z) e (ap x m ∙ row_at_zero)) o (l ∙ ap₂ (λ y z. rate_of d y z) p m ∙ rate) t.fit.way_length

      -- the row can't move alone
      mover_is_x : (q : ℕ) (r : ℕ → Rational) → q < 2 → IsDirection first d q one_ℚ r → q ≡ 0
      mover_is_x zero r known direction = refl
      mover_is_x (suc zero) r known direction =
          absurd (never_one (sym direction.mover ∙ direction.basics 1 refl ∙ ap (λ y. one_ℚ *ℚ y) (rate_else zero_ℚ None a lo hi g laws d h 0) ∙ Q.mul-zero one_ℚ))
      mover_is_x (suc (suc q)) r known direction = absurd (omega arith)

      step_length : (q : ℕ) (s : Rational) (r : ℕ → Rational) → q ≡ 0 → IsDirection first d q one_ℚ r → IsBasicPoint (turning a lo hi g) (second place) (λ v. x v +ℚ s *ℚ r v) → s ≡ inv_ℚ a *ℚ bound
      step_length q s r e direction there = sym (undone a s t.some) ∙ ap (λ y. inv_ℚ a *ℚ y) arrives
        where
          moves : r 1 ≡ a
          moves = direction.basics 1 refl ∙ ap (λ j. one_ℚ *ℚ rate_of d j 1) e ∙ Q.one-mul (rate_of d 0 1) ∙ rate

          arrives : a *ℚ s ≡ bound
          arrives = Q.mul_comm a s ∙ ap (λ y. s *ℚ y) (sym moves) ∙ sym (Q.zero-add (s *ℚ r 1)) ∙ ap (λ y. y +ℚ s *ℚ r 1) (sym row_at_zero) ∙ row_behind (λ v. x v +ℚ s *ℚ r v) there

      moves_fit : (q : ℕ) (s n : Rational) (op : Operation) (c : Rational) → q ≡ 0 → s ≡ inv_ℚ a *ℚ bound → IsMoveOperation (turning a lo hi g) first x d q s n op c → fits_by op n c ≡ true
      moves_fit q s n op c e m (IsMoveOperation.mover f o l) = same_fits op Plus n zero_ℚ c (inv_ℚ a *ℚ bound) (f ∙ ap x e ∙ x_is zero_ℚ None a lo hi g x k) o (l ∙ m) t.fit.mover
      moves_fit q s n op c e m (IsMoveOperation.product v known basic f o l) =
          same_fits op Times n a c (inv_ℚ a *ℚ bound) (f ∙ ap₂ (λ y z. rate_of d y z) e (basic_is_row v basic) ∙ rate) o (l ∙ m) t.fit.move_product
      moves_fit q s n op c e m (IsMoveOperation.sum v known basic f o l) =
          same_fits op Plus n (a *ℚ (inv_ℚ a *ℚ bound)) c zero_ℚ (f ∙ ap₂ (λ y z. y *ℚ z) (ap₂ (λ y z. rate_of d y z) e (basic_is_row v basic) ∙ rate) m) o (l ∙ ap x (basic_is_row v basic) ∙ row_at_zero) t.fit.move_sum

    quotients_fit : (j : ℕ) (n : Rational) (op : Operation) (c : Rational) → n ≡ rate_of d j 1 → op ≡ DividedBy → c ≡ a → fits_by op n c ≡ true
    quotients_fit zero n op c e o f = same_fits op DividedBy n a c a (e ∙ rate) o f t.fit.quotient
    quotients_fit (suc j) n op c e o f = same_fits op DividedBy n zero_ℚ c a (e ∙ rate_else zero_ℚ None a lo hi g laws d h j) o f t.fit.zero_quotient

    row_or_gain : (f : ℕ → Rational) → IsRowOf first d f → (f 0 ≡ a) ⊎ (f 0 ≡ g)
    row_or_gain f (IsRowOf.of_basic v basic is) = inl (is 0 ∙ ap (λ w. rate_of d 0 w) (basic_is_row v basic) ∙ rate)
    row_or_gain f (IsRowOf.of_objective is) = inr (is 0 ∙ gain_is zero_ℚ None a lo hi g d h)

    leaving_products_fit : (f : ℕ → Rational) (n : Rational) (op : Operation) (c : Rational) → (f 0 ≡ a) ⊎ (f 0 ≡ g) → n ≡ f 0 → op ≡ Times → c ≡ inv_ℚ a → fits_by op n c ≡ true
    leaving_products_fit f n op c (inl m) e o l = same_fits op Times n a c (inv_ℚ a) (e ∙ m) o l t.fit.row_product
    leaving_products_fit f n op c (inr m) e o l = same_fits op Times n g c (inv_ℚ a) (e ∙ m) o l t.fit.gain_product

    leaving_sums_fit : (f : ℕ → Rational) (n : Rational) (op : Operation) (c : Rational) → (f 0 ≡ a) ⊎ (f 0 ≡ g) → n ≡ f 0 *ℚ inv_ℚ a → op ≡ Plus → c ≡ zero_ℚ → fits_by op n c ≡ true
    leaving_sums_fit f n op c (inl m) e o l = same_fits op Plus n (a *ℚ inv_ℚ a) c zero_ℚ (e ∙ ap (λ y. y *ℚ inv_ℚ a) m) o l t.fit.row_sum
    leaving_sums_fit f n op c (inr m) e o l = same_fits op Plus n (g *ℚ inv_ℚ a) c zero_ℚ (e ∙ ap (λ y. y *ℚ inv_ℚ a) m) o l t.fit.gain_sum

    pivots_fit : (n : Rational) (op : Operation) (c : Rational) → IsPivotOperation first d 0 1 n op c → fits_by op n c ≡ true
    pivots_fit n op c (IsPivotOperation.reciprocal e o f) = same_fits op DividedBy n (whole (negsuc 0)) c a e o (f ∙ rate) t.fit.reciprocal
    pivots_fit n op c (IsPivotOperation.quotient j e o f) = quotients_fit j n op c e o (f ∙ rate)
    pivots_fit n op c (IsPivotOperation.product f j row rests other e o l) = absurd (other (resting_is_x j rests))
    pivots_fit n op c (IsPivotOperation.sum f j row rests other e o l) = absurd (other (resting_is_x j rests))
    pivots_fit n op c (IsPivotOperation.product_at_leaving f row e o l) = leaving_products_fit f n op c (row_or_gain f row) e o (l ∙ ap inv_ℚ rate)
    pivots_fit n op c (IsPivotOperation.sum_at_leaving f row e o l) = leaving_sums_fit f n op c (row_or_gain f row) (e ∙ ap (λ y. f 0 *ℚ inv_ℚ y) rate) o l

  mending_fits : (b : List Place) (d : Dictionary) (x : ℕ → Rational) (q v : ℕ) (to : Place) (limit n : Rational) (op : Operation) (c : Rational) → (b ≡ first) ⊎ (b ≡ second place) → IsDictionary (turning a lo hi g) b d → IsBasicPoint (turning a lo hi g) b x
      → MendStep (turning a lo hi g) b x d q v to → IsBoundAt (turning a lo hi g) v to limit → IsLengthOperation b x d q v limit n op c → fits_by op n c ≡ true
  mending_fits b d x q v to limit n op c (inr e) is_dictionary is_point m at h =
      absurd (none_outside x v (subst (λ c. IsBasicPoint (turning a lo hi g) c x) e is_point) (subst (λ c. IsOutside (turning a lo hi g) c x v) e m.first_outside.holds))
  mending_fits b d x q v to limit n op c (inl e) is_dictionary is_point m at h =
      let point : IsBasicPoint (turning a lo hi g) first x = subst (λ c. IsBasicPoint (turning a lo hi g) c x) e is_point in
      let row = mends_row zero_ℚ None a lo hi g x d q v to (subst (λ c. MendStep (turning a lo hi g) c x d q v to) e m) in
      lengths_fit d (subst (λ c. IsDictionary (turning a lo hi g) c d) e is_dictionary) x point q v limit n op c row.0 row.1 (t.mends x d to limit point row.2 (subst (λ w. IsBoundAt (turning a lo hi g) w to limit) row.1 at))
      (subst (λ f. IsLengthOperation f x d q v limit n op c) e h)

  improving_fits : (b : List Place) (d : Dictionary) (x : ℕ → Rational) (q : ℕ) (heading : Rational) (r : ℕ → Rational) (v : ℕ) (limit n : Rational) (op : Operation) (c : Rational) → (b ≡ first) ⊎ (b ≡ second place)
      → IsDictionary (turning a lo hi g) b d → IsBasicPoint (turning a lo hi g) b x → ((w : ℕ) → ¬ (IsOutside (turning a lo hi g) b x w)) → Improves (turning a lo hi g) b x d q → IsHeading d q heading → IsDirection b d q heading r
      → v < 2 → LiesAhead (turning a lo hi g) v (r v) limit → IsLengthOperation b x d q v limit n op c → fits_by op n c ≡ true
  improving_fits b d x q heading r v limit n op c (inr e) is_dictionary is_point none improves is_heading direction known ahead h =
      absurd (none_improves d x q (subst (λ c. IsDictionary (turning a lo hi g) c d) e is_dictionary) (subst (λ c. IsBasicPoint (turning a lo hi g) c x) e is_point) (subst (λ c. Improves (turning a lo hi g) c x d q) e improves))
  improving_fits b d x q heading r v limit n op c (inl e) is_dictionary is_point none improves is_heading direction known ahead h =
      let dictionary : IsDictionary (turning a lo hi g) first d = subst (λ c. IsDictionary (turning a lo hi g) c d) e is_dictionary in
      let point : IsBasicPoint (turning a lo hi g) first x = subst (λ c. IsBasicPoint (turning a lo hi g) c x) e is_point in
      let at_x : q ≡ 0 = resting_is_x q (subst (λ c. IsResting c q) e improves.resting) in
      let row = t.improves x d heading r v limit dictionary point (subst (λ c. (w : ℕ) → ¬ (IsOutside (turning a lo hi g) c x w)) e none) (subst (λ j. IsHeading d j heading) at_x is_heading)
      (subst (λ j. IsDirection first d j heading r) at_x (subst (λ c. IsDirection c d q heading r) e direction)) known ahead in
      lengths_fit d dictionary x point q v limit n op c at_x row.0 row.1 (subst (λ f. IsLengthOperation f x d q v limit n op c) e h)

  moving_fits : (b next : List Place) (d : Dictionary) (x : ℕ → Rational) (q : ℕ) (s : Rational) (r : ℕ → Rational) (n : Rational) (op : Operation) (c : Rational) → (b ≡ first) × (next ≡ second place)
      → IsDictionary (turning a lo hi g) b d → IsBasicPoint (turning a lo hi g) b x → IsDirection b d q one_ℚ r → q < 2 → IsBasicPoint (turning a lo hi g) next (λ v. x v +ℚ s *ℚ r v)
      → IsMoveOperation (turning a lo hi g) b x d q s n op c → fits_by op n c ≡ true
  moving_fits b next d x q s r n op c step is_dictionary is_point direction known there h =
      let dictionary : IsDictionary (turning a lo hi g) first d = subst (λ c. IsDictionary (turning a lo hi g) c d) step.0 is_dictionary in
      let point : IsBasicPoint (turning a lo hi g) first x = subst (λ c. IsBasicPoint (turning a lo hi g) c x) step.0 is_point in
      let moves : IsDirection first d q one_ℚ r = subst (λ c. IsDirection c d q one_ℚ r) step.0 direction in
      let at_x : q ≡ 0 = mover_is_x d dictionary x point q r known moves in
      let length_is = step_length d dictionary x point q s r at_x moves (subst (λ c. IsBasicPoint (turning a lo hi g) c (λ v. x v +ℚ s *ℚ r v)) step.1 there) in
      moves_fit d dictionary x point q s n op c at_x length_is (subst (λ f. IsMoveOperation (turning a lo hi g) f x d q s n op c) step.0 h)

  turning_fits : (b : List Place) (d : Dictionary) (q r : ℕ) (n : Rational) (op : Operation) (c : Rational) → b ≡ first → IsDictionary (turning a lo hi g) b d → IsBasic b r → IsResting b q → IsPivotOperation b d q r n op c → fits_by op n c ≡ true
  turning_fits b d q r n op c e is_dictionary leaves enters h =
      let at_x : q ≡ 0 = resting_is_x q (subst (λ c. IsResting c q) e enters) in
      let at_row : r ≡ 1 = basic_is_row r (subst (λ c. IsBasic c r) e leaves) in
      pivots_fit d (subst (λ c. IsDictionary (turning a lo hi g) c d) e is_dictionary) n op c
      (subst (λ v. IsPivotOperation first d 0 v n op c) at_row (subst (λ j. IsPivotOperation first d j r n op c) at_x (subst (λ f. IsPivotOperation f d q r n op c) e h)))

  pub operations_fit : (n : Rational) (op : Operation) (c : Rational) → IsRunOperation (turning a lo hi g) n op c → fits_by op n c ≡ true
  operations_fit n op c (IsRunOperation.at_start b k form start is_form h) = start_fits zero_ℚ None a lo hi g t.fit.start_product t.fit.start_sum k form is_form n op c h
  operations_fit n op c (IsRunOperation.of_mending b before d x q v to limit run is_dictionary is_point m at h) = mending_fits b d x q v to limit n op c (one_or_two b before run) is_dictionary is_point m at h
  operations_fit n op c (IsRunOperation.of_improving b before d x q heading r v limit run is_dictionary is_point none improves is_heading direction known ahead h) =
      improving_fits b d x q heading r v limit n op c (one_or_two b before run) is_dictionary is_point none improves.holds is_heading direction known ahead h
  operations_fit n op c (IsRunOperation.of_move b next before d x q s r run is_dictionary is_point direction known there h) =
      moving_fits b next d x q s r n op c (step_is b next before run) is_dictionary is_point direction known there h
  operations_fit n op c (IsRunOperation.of_pivot b before d q r to run is_dictionary leaves enters stops some h) = turning_fits b d q r n op c ((step_is b _ before run).0) is_dictionary leaves enters h
