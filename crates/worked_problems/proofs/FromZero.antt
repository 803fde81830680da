-- A column from 0 on, and no rows: Bland's run ends where it starts, and makes no operation.
use Rattle.std.proofs.Common.{◌≡◌, ◌∙◌, ℕ, zero, suc, ◌<◌, List, [], ◌∷◌, ◌++◌, length, Bool, Some, None, refl, sym, ap, subst, arith, inl, inr}
use Rattle.std.specs.Prelude.{pos, ◌*ℤ◌, ◌<ℤ◌}
use Rattle.std.proofs.lemmas.Int.{ints}
use Rattle.rational.specs.Rational.{Rational, zero_ℚ, one_ℚ, neg_ℚ, ◌<ℚ◌, ◌≤ℚ◌}
use Rattle.rational.proofs.Laws as Q
use Rattle.milp.specs.Form.{Entry}
use Rattle.verdicts.specs.WeightedSums.{scaled, AllBelow, coefficient_of}
use Rattle.basis.specs.System.{System, lower_of, upper_of, IsSystem}
use Rattle.basis.specs.Dictionary.{place_of, IsBasic, Dictionary, IsDictionary, gain_of, IsBasicPoint}
use Rattle.basis.specs.Bland.{first_place, start_dictionary, CanRaise, Improves, IsHeading, IsDirection, Reaches, ImproveStep, BlandStep, IsFinal, IsStart, IsRun}
use Rattle.basis.specs.Pivots.{Operation}
use Rattle.basis.specs.Weights.{IsContradictory, items_at, nonzero}
use Rattle.basis.specs.Relaxation.{IsOptimalRelaxation, IsInfeasibleRelaxation, IsUnboundedBasis}
use Rattle.verdicts.specs.Certificate.{Weights}
use Rattle.basis.specs.Node.{system_of}
use Rattle.basis.specs.Operations.{LiesAhead, IsRunOperation}
use Rattle.basis.specs.declared.Place.{Place}
use Rattle.basis.specs.declared.Place.TheVariants.{Basic, AtLower, AtUpper, AtZero}
use Rattle.simplex.specs.Run.{IsLimited}
use Rattle.basis.proofs.Laws.{neg_above, neg_below, start_is_dictionary, same_gains}
use Rattle.worked_problems.specs.Problems.{over_x}
use Rattle.worked_problems.proofs.Fitting.{none_some}

abbrev pub at_root : Bool → List Entry → System
at_root integer form = system_of (over_x integer [] form) [] []

-- this number as the weight on x, unless it is 0
abbrev pub weighed : Rational → Weights
weighed g = record { rows = []; columns = items_at 0 (nonzero g) ++ []; derived = []; splits = [] }

-- x is 0 and rises, and the objective falls
pub record IsRising (d : Dictionary) (x r : ℕ → Rational) : Type 0 where
  pub origin : x 0 ≡ zero_ℚ
  pub rises : r 0 ≡ one_ℚ
  pub falls : gain_of d 0 <ℚ zero_ℚ

abbrev pub first : List Place
first = AtLower ∷ []

pub one_above : zero_ℚ <ℚ one_ℚ
one_above = record { cross = parts }
  where
    parts : (pos 0 *ℤ pos 1) <ℤ (pos 1 *ℤ pos 1)
    parts = omega (arith, ints)

pub none_basic : (v : ℕ) → ¬ (IsBasic first v)
none_basic zero e = cc
none_basic (suc v) e = cc

module _ (integer : Bool) (form : List Entry) where
  start_is_first : (b : List Place) → IsStart (at_root integer form) b → b ≡ first
  start_is_first [] h = absurd (let e : 0 ≡ 1 = h.size in omega arith)
  start_is_first (p ∷ []) h = ap (λ q. q ∷ []) (h.columns 0 (omega arith))
  start_is_first (p ∷ q ∷ b) h = absurd (let e : suc (suc (length b)) ≡ 1 = h.size in omega arith)

  pub at_zero : (x : ℕ → Rational) → IsBasicPoint (at_root integer form) first x → x 0 ≡ zero_ℚ
  at_zero x h = zeros (h.rests 0 (omega arith))
    where
      zeros : Some zero_ℚ ≡ Some (x 0) → x 0 ≡ zero_ℚ
      zeros e = cc

  -- x improves only where the objective falls as it rises
  pub falls : (x : ℕ → Rational) (gain : Rational) → x 0 ≡ zero_ℚ → CanRaise (at_root integer form) x 0 (neg_ℚ gain) → gain <ℚ zero_ℚ
  falls x gain e (inl rises) = subst (λ g. g <ℚ zero_ℚ) (Q.neg_neg gain) (neg_above (neg_ℚ gain) rises.0)
  falls x gain e (inr low) = absurd (Q.lt-not-le zero_ℚ (x 0) low.1 (subst (λ a. a ≤ℚ zero_ℚ) (sym e) (Q.le_refl zero_ℚ)))

  rises : (d : Dictionary) (heading : Rational) → gain_of d 0 <ℚ zero_ℚ → IsHeading d 0 heading → heading ≡ one_ℚ
  rises d heading low (inl h) = h.1
  rises d heading low (inr h) = absurd (Q.lt-not-le _ _ low (Q.le_of_lt _ _ h.0))

  -- where x rises, it comes to no bound
  pub none_ahead : (rate bound : Rational) → rate ≡ one_ℚ → ¬ (LiesAhead (at_root integer form) 0 rate bound)
  none_ahead rate bound e (inl h) = (let none : None ≡ Some bound = h.1 in cc)
  none_ahead rate bound e (inr h) = Q.lt-not-le _ _ (subst (λ a. a <ℚ zero_ℚ) e h.0) (Q.le_of_lt _ _ one_above)

  pub reaches_none : (x r : ℕ → Rational) (t : Rational) (place : Place) → r 0 ≡ one_ℚ → ¬ (Reaches (at_root integer form) x r t 0 place)
  reaches_none x r t Basic e h = h
  reaches_none x r t AtLower e h = Q.lt-not-le _ _ (subst (λ a. a <ℚ zero_ℚ) e h.0) (Q.le_of_lt _ _ one_above)
  reaches_none x r t AtUpper e h = let none = h.1 in cc
  reaches_none x r t AtZero e h = h

  -- what moves is x, and it rises
  pub direction_is : (d : Dictionary) (x r : ℕ → Rational) (heading : Rational) → IsBasicPoint (at_root integer form) first x → Improves (at_root integer form) first x d 0
      → IsHeading d 0 heading → IsDirection first d 0 heading r → r 0 ≡ one_ℚ
  direction_is d x r heading point improves is_heading h = h.mover ∙ rises d heading (falls x (gain_of d 0) (at_zero x point) improves.can_improve) is_heading

  never_improves : (d : Dictionary) (x : ℕ → Rational) (enters leaves : ℕ) (place : Place) → IsBasicPoint (at_root integer form) first x → ¬ (ImproveStep (at_root integer form) first x d enters leaves place)
  never_improves d x (suc q) leaves place point m = absurd (let known = m.first_improving.holds.resting.known in omega arith)
  never_improves d x zero (suc v) place point m = absurd (let known = m.known in omega arith)
  never_improves d x zero zero place point m = reaches_none x m.direction m.step place (direction_is d x m.direction m.heading point m.first_improving.holds m.is_heading m.is_direction) m.reaches

  pub first_final : IsFinal (at_root integer form) first
  first_final c h = elim h.chosen [
    | inl m ↦ none_basic h.leaves m.first_outside.holds.basic
    | inr m ↦ never_improves h.dictionary h.point h.enters h.leaves h.place h.is_point m
  ]

  one_run : (b : List Place) (before : List (List Place)) → IsRun (at_root integer form) b before → b ≡ first
  one_run b [] h = start_is_first b h
  one_run b (c ∷ before) h = absurd (first_final b (subst (λ a. BlandStep (at_root integer form) a b) (one_run c before h.1) h.0))

  -- what holds of a basis of a run holds of this one
  pub at_first : (P : List Place → Type 0) (b : List Place) (before : List (List Place)) → IsRun (at_root integer form) b before → P b → P first
  at_first P b before run h = subst P (one_run b before run) h

  pub never_limited : (limit : ℕ) (bases : List (List Place)) → ¬ (IsLimited (at_root integer form) limit bases)
  never_limited limit bases h = first_final h.is_limit.next (at_first (λ b. BlandStep (at_root integer form) b h.is_limit.next) h.last h.before h.is_limit.is_run h.is_limit.one_more)

  never_ahead : (d : Dictionary) (x r : ℕ → Rational) (q v : ℕ) (heading bound : Rational) → IsBasicPoint (at_root integer form) first x → Improves (at_root integer form) first x d q
      → IsHeading d q heading → IsDirection first d q heading r → v < 1 → ¬ (LiesAhead (at_root integer form) v (r v) bound)
  never_ahead d x r q (suc v) heading bound point improves is_heading direction known ahead = omega arith
  never_ahead d x r (suc q) zero heading bound point improves is_heading direction known ahead = (let low = improves.resting.known in omega arith)
  never_ahead d x r zero zero heading bound point improves is_heading direction known ahead = none_ahead (r 0) bound (direction_is d x r heading point improves is_heading direction) ahead

  pub no_run_operation : (a : Rational) (op : Operation) (c : Rational) → ¬ (IsRunOperation (at_root integer form) a op c)
  no_run_operation a op c (IsRunOperation.at_start b k form start is_form h) = none_some form is_form
  no_run_operation a op c (IsRunOperation.of_mending b before d x q v place bound run is_dictionary is_point m at h) = none_basic v (at_first (λ e. IsBasic e v) b before run m.first_outside.holds.basic)
  no_run_operation a op c (IsRunOperation.of_improving b before d x q heading r v bound run is_dictionary is_point none improves is_heading direction known ahead h) =
      never_ahead d x r q v heading bound (at_first (λ e. IsBasicPoint (at_root integer form) e x) b before run is_point) (at_first (λ e. Improves (at_root integer form) e x d q) b before run improves.holds)
      is_heading (at_first (λ e. IsDirection e d q heading r) b before run direction) known ahead
  no_run_operation a op c (IsRunOperation.of_move b next before d x q t r run is_dictionary is_point direction known there h) = first_final next (at_first (λ e. BlandStep (at_root integer form) e next) b before run.1 run.0)
  no_run_operation a op c (IsRunOperation.of_pivot b before d q r place run is_dictionary leaves enters stops some h) = none_basic r (at_first (λ e. IsBasic e r) b before run.1 leaves)

  -- ---- where the run ends

  is_system : AllBelow 1 (scaled one_ℚ form) → IsSystem (at_root integer form)
  is_system below = record { forms = λ k. tt; objective = below; bounds = refl }

  is_start : IsStart (at_root integer form) first
  is_start = record { size = refl; columns = columns; forms = λ k h. absurd (omega arith) }
    where
      columns : (v : ℕ) → v < 1 → place_of first v ≡ first_place (lower_of (at_root integer form) v) (upper_of (at_root integer form) v)
      columns zero h = refl
      columns (suc v) h = absurd (omega arith)

  pub gain_is : AllBelow 1 (scaled one_ℚ form) → (d : Dictionary) → IsDictionary (at_root integer form) first d → gain_of d 0 ≡ coefficient_of (scaled one_ℚ form) 0
  gain_is below d h = same_gains (at_root integer form) first d (start_dictionary (at_root integer form)) h (start_is_dictionary (at_root integer form) first (is_system below) is_start) 0

  rising : (d : Dictionary) (x r : ℕ → Rational) (q : ℕ) (heading : Rational) → IsBasicPoint (at_root integer form) first x → Improves (at_root integer form) first x d q
      → IsHeading d q heading → IsDirection first d q heading r → IsRising d x r
  rising d x r (suc q) heading point improves is_heading direction = absurd (let known = improves.resting.known in omega arith)
  rising d x r zero heading point improves is_heading direction = record {
    origin = at_zero x point;
    rises = direction_is d x r heading point improves is_heading direction;
    falls = falls x (gain_of d 0) (at_zero x point) improves.can_improve;
  }

  pub unbounded_rises : (b : List Place) (d : Dictionary) (x : ℕ → Rational) (q : ℕ) (r : ℕ → Rational) → IsUnboundedBasis (at_root integer form) b d x q r → IsRising d x r
  unbounded_rises b d x q r u =
      rising d x r q u.heading (at_first (λ c. IsBasicPoint (at_root integer form) c x) b u.before u.is_run u.is_point) (at_first (λ c. Improves (at_root integer form) c x d q) b u.before u.is_run u.first_improving.holds)
      u.is_heading (at_first (λ c. IsDirection c d q u.heading r) b u.before u.is_run u.is_direction)

  pub unbounded_dictionary : (b : List Place) (d : Dictionary) (x : ℕ → Rational) (q : ℕ) (r : ℕ → Rational) → IsUnboundedBasis (at_root integer form) b d x q r → IsDictionary (at_root integer form) first d
  unbounded_dictionary b d x q r u = at_first (λ c. IsDictionary (at_root integer form) c d) b u.before u.is_run u.is_dictionary

  pub never_infeasible : (w : Weights) → ¬ (IsInfeasibleRelaxation (over_x integer [] form) [] [] w)
  never_infeasible w (IsInfeasibleRelaxation.contradiction v h e) = go v h
    where
      go : (v : ℕ) → ¬ (IsContradictory (at_root integer form) v)
      go zero k = none_some k.upper k.is_upper
      go (suc v) k = none_some k.lower k.is_lower
  never_infeasible w (IsInfeasibleRelaxation.blocked b d x r place h e) = none_basic r (at_first (λ c. IsBasic c r) b h.before h.is_run h.first_outside.holds.basic)

  module _ (x : List Rational) (w : Weights) (b : List Place) (d : Dictionary) (h : IsOptimalRelaxation (over_x integer [] form) [] [] x w b d) where
    pub optimal_point : x ≡ zero_ℚ ∷ []
    optimal_point = h.point ∙ ap (λ a. a ∷ []) (at_zero h.values (at_first (λ c. IsBasicPoint (at_root integer form) c h.values) b h.is_optimal.before h.is_optimal.is_run h.is_optimal.is_point))

    pub optimal_weights : AllBelow 1 (scaled one_ℚ form) → w ≡ weighed (coefficient_of (scaled one_ℚ form) 0)
    optimal_weights below = h.weights ∙ ap weighed (gain_is below d (at_first (λ c. IsDictionary (at_root integer form) c d) b h.is_optimal.before h.is_optimal.is_run h.is_optimal.is_dictionary))

    -- the objective doesn't fall as x rises
    pub optimal_gain : AllBelow 1 (scaled one_ℚ form) → ¬ (coefficient_of (scaled one_ℚ form) 0 <ℚ zero_ℚ)
    optimal_gain below low =
        at_first (λ c. ¬ (Improves (at_root integer form) c h.values d 0)) b h.is_optimal.before h.is_optimal.is_run (h.is_optimal.none_improves 0)
        (record { resting = record { known = omega arith; not_basic = none_basic 0 }; can_improve = inl (neg_below (gain_of d 0) falling, tt) })
      where
        falling : gain_of d 0 <ℚ zero_ℚ
        falling = subst (λ g. g <ℚ zero_ℚ) (sym (gain_is below d (at_first (λ c. IsDictionary (at_root integer form) c d) b h.is_optimal.before h.is_optimal.is_run h.is_optimal.is_dictionary))) low
