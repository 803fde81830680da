-- From the basis at which the simplex method ends no step of Bland's rule leads on.
use Rattle.std.proofs.Common.{◌≡◌, ℕ, ◌⊎◌, List, subst, length, inl, inr}
use Rattle.rational.specs.Rational.{Rational}
use Rattle.rational.proofs.Laws as Q
use Rattle.basis.specs.System.{System, size, IsInside, AllInside}
use Rattle.basis.specs.Dictionary.{IsBasic, Dictionary}
use Rattle.basis.specs.Bland.{HasPassed, IsOutside, Mends, MendStep, Improves, ImproveStep, IsFinal, IsOptimalBasis}
use Rattle.basis.specs.Relaxation.{IsBlocked, IsUnboundedBasis}
use Rattle.basis.specs.declared.Place.{Place}
use Rattle.basis.specs.declared.Place.TheVariants.{AtLower, AtUpper}
use Rattle.basis.proofs.Places.{basic_known}
use Rattle.basis.proofs.OneRun.{same_least, HaveSameNumbers, turned, same_numbers, same_passed, same_reach, passed_once, basic_value, same_outside, same_mends, same_improves, same_heading, same_direction}

inside_passes_none : (s : System) (x : ℕ → Rational) (v : ℕ) → IsInside s x v → ¬ (HasPassed s x v AtLower ⊎ HasPassed s x v AtUpper)
inside_passes_none s x v h (inl k) = Q.lt-not-le (x v) k.0 k.2 (rw (k.1) at h.low)
inside_passes_none s x v h (inr k) = Q.lt-not-le k.0 (x v) k.2 (rw (k.1) at h.high)

inside_none_outside : (s : System) (b : List Place) (x : ℕ → Rational) → length b ≡ size s → AllInside s x → (v : ℕ) → ¬ (IsOutside s b x v)
inside_none_outside s b x places inside v h = inside_passes_none s x v (inside v (rw (← places) (basic_known b v h.basic))) h.outside

-- ---- with the dictionary and the point of a step that would lead on

-- the least variable outside its bounds and the place that it passed are those of the blocked row, which none mends
blocked_mends_none : (s : System) (b : List Place) (d e : Dictionary) (x y : ℕ → Rational) (q v r : ℕ) (p place : Place) → HaveSameNumbers s b e d y x → IsBlocked s b d x r place → ¬ (MendStep s b y e q v p)
blocked_mends_none s b d e x y q v r p place same h m =
    let back = turned s b e d y x same in
    let leaves : v ≡ r = same_least (IsOutside s b y) (IsOutside s b x) v r (same_outside s b e d y x same) (same_outside s b d e x y back) m.first_outside h.first_outside in
    let basic : IsBasic b r = h.first_outside.holds.basic in
    let at_r : MendStep s b y e q r p = (let P : ℕ → Type 0 = λ u. MendStep s b y e q u p in subst P leaves m) in
    let passes : p ≡ place = passed_once s x r p place h.in_order (same_passed s y x r p (basic_value s b e d y x same r basic) at_r.passed) h.passed in
    let mends : Mends s b y e r place q = (let P : Place → Type 0 = λ u. Mends s b y e r u q in subst P passes at_r.first_mending.holds) in
    h.none_mends q (same_mends s b e d y x same r place basic q mends)

-- the least variable that improves, its heading and its direction are those that reach no bound
unbounded_reaches_none : (s : System) (b : List Place) (d e : Dictionary) (x y : ℕ → Rational) (j v q : ℕ) (p : Place) (direction : ℕ → Rational) → HaveSameNumbers s b e d y x → IsUnboundedBasis s b d x q direction
    → ¬ (ImproveStep s b y e j v p)
unbounded_reaches_none s b d e x y j v q p direction same h m =
    let back = turned s b e d y x same in
    let enters : j ≡ q = same_least (Improves s b y e) (Improves s b x d) j q (same_improves s b e d y x same) (same_improves s b d e x y back) m.first_improving h.first_improving in
    let at_q : ImproveStep s b y e q v p = (let P : ℕ → Type 0 = λ u. ImproveStep s b y e u v p in subst P enters m) in
    let heads : at_q.heading ≡ h.heading = same_heading s b e d y x same q at_q.heading h.heading at_q.is_heading h.is_heading in
    let moves : at_q.direction v ≡ direction v = same_direction s b e d y x same q at_q.heading h.heading at_q.direction direction heads at_q.is_direction h.is_direction v at_q.known in
    h.reaches_none at_q.step v p at_q.known (same_reach s y x at_q.direction direction at_q.step v p (same.values v at_q.known) moves at_q.reaches)

-- ---- the three ends

pub optimal_is_final : (s : System) (b : List Place) (d : Dictionary) (x : ℕ → Rational) → IsOptimalBasis s b d x → IsFinal s b
optimal_is_final s b d x h c k =
    let same = same_numbers s b k.dictionary d k.point x k.is_dictionary h.is_dictionary k.is_point h.is_point in
    elim k.chosen [
      | inl m ↦ inside_none_outside s b x h.is_dictionary.size h.inside k.leaves (same_outside s b k.dictionary d k.point x same k.leaves m.first_outside.holds)
      | inr m ↦ h.none_improves k.enters (same_improves s b k.dictionary d k.point x same k.enters m.first_improving.holds)
    ]

pub blocked_is_final : (s : System) (b : List Place) (d : Dictionary) (x : ℕ → Rational) (r : ℕ) (place : Place) → IsBlocked s b d x r place → IsFinal s b
blocked_is_final s b d x r place h c k =
    let same = same_numbers s b k.dictionary d k.point x k.is_dictionary h.is_dictionary k.is_point h.is_point in
    elim k.chosen [
      | inl m ↦ blocked_mends_none s b d k.dictionary x k.point k.enters k.leaves r k.place place same h m
      | inr m ↦ m.none_outside r (same_outside s b d k.dictionary x k.point (turned s b k.dictionary d k.point x same) r h.first_outside.holds)
    ]

pub unbounded_is_final : (s : System) (b : List Place) (d : Dictionary) (x : ℕ → Rational) (q : ℕ) (direction : ℕ → Rational) → IsUnboundedBasis s b d x q direction → IsFinal s b
unbounded_is_final s b d x q direction h c k =
    let same = same_numbers s b k.dictionary d k.point x k.is_dictionary h.is_dictionary k.is_point h.is_point in
    elim k.chosen [
      | inl m ↦ inside_none_outside s b x h.is_dictionary.size h.inside k.leaves (same_outside s b k.dictionary d k.point x same k.leaves m.first_outside.holds)
      | inr m ↦ unbounded_reaches_none s b d k.dictionary x k.point k.enters k.leaves q k.place direction same h m
    ]
