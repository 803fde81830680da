-- Bland's rule leads from a system to one run alone.
use Rattle.std.proofs.Common.{◌≡◌, ◌∙◌, ℕ, ◌+◌, ◌-◌, ◌<◌, ◌≤◌, ◌⊎◌, List, [], ◌∷◌, refl, sym, ap, subst, arith, length, Some, IfSome, inl, inr}
use mathlib.Core.Path.{ap₂}
use Rattle.std.proofs.Math.Decide.{ℕ_discrete, dec_lt}
use Rattle.std.proofs.lemmas.List.{ext_get_or}
use Rattle.rational.specs.Rational.{Rational, zero_ℚ, neg_ℚ, ◌+ℚ◌, ◌*ℚ◌, ◌<ℚ◌, ◌≤ℚ◌}
use Rattle.rational.proofs.Laws as Q
use Rattle.basis.specs.System.{System, size, lower_of, upper_of, AreBoundsInOrder}
use Rattle.basis.specs.Dictionary.{place_of, IsBasic, IsResting, Dictionary, IsDictionary, rate_of, gain_of, IsBasicPoint}
use Rattle.basis.specs.Bland.{exchanged, IsLeast, HasPassed, IsOutside, CanRaise, CanMend, Mends, MendStep, Improves, IsHeading, IsDirection, Reaches, IsFirst, ImproveStep, BlandStep, IsFinal, IsStart, IsRun}
use Rattle.basis.specs.declared.Place.{Place}
use Rattle.basis.specs.declared.Place.TheVariants.{Basic, AtLower, AtUpper, AtZero}
use Rattle.basis.proofs.Places.{basic_known, is_basic_or}
use Rattle.basis.proofs.Unique.{same_rates, same_gains, same_point}

-- where P and Q hold of the same numbers, they hold of the same least one
pub same_least : (P Q : ℕ → Type 0) (m n : ℕ) → ((k : ℕ) → P k → Q k) → ((k : ℕ) → Q k → P k) → IsLeast P m → IsLeast Q n → m ≡ n
same_least P Q m n there back h k = elim (dec_lt m n) [
  | yes low ↦ absurd (k.none_before m low (there m h.holds))
  | no high ↦ elim (dec_lt n m) [
    | yes low ↦ absurd (h.none_before n low (back n k.holds))
    | no other ↦ omega arith
  ]
]

-- ---- two dictionaries and two points of one basis

-- they have the same numbers
pub record HaveSameNumbers (s : System) (b : List Place) (d e : Dictionary) (x y : ℕ → Rational) : Type 0 where
  pub places : length b ≡ size s
  pub rates : (v j : ℕ) → IsBasic b v → rate_of d j v ≡ rate_of e j v
  pub gains : (j : ℕ) → gain_of d j ≡ gain_of e j
  pub values : (v : ℕ) → v < size s → x v ≡ y v

pub turned : (s : System) (b : List Place) (d e : Dictionary) (x y : ℕ → Rational) → HaveSameNumbers s b d e x y → HaveSameNumbers s b e d y x
turned s b d e x y h = record {
  places = h.places;
  rates = λ v j k. sym (h.rates v j k);
  gains = λ j. sym (h.gains j);
  values = λ v k. sym (h.values v k);
}

pub same_numbers : (s : System) (b : List Place) (d e : Dictionary) (x y : ℕ → Rational) → IsDictionary s b d → IsDictionary s b e → IsBasicPoint s b x → IsBasicPoint s b y → HaveSameNumbers s b d e x y
same_numbers s b d e x y h k m n = record {
  places = h.size;
  rates = same_rates s b d e h k;
  gains = same_gains s b d e h k;
  values = same_point s b d x y h m n;
}

-- ---- what holds of a variable, at another function with the same value there

pub same_passed : (s : System) (x y : ℕ → Rational) (v : ℕ) (p : Place) → x v ≡ y v → HasPassed s x v p → HasPassed s y v p
same_passed s x y v Basic e h = h
same_passed s x y v AtLower e h = (h.0, h.1, subst (λ t. t <ℚ h.0) e h.2)
same_passed s x y v AtUpper e h = (h.0, h.1, subst (λ t. h.0 <ℚ t) e h.2)
same_passed s x y v AtZero e h = h

same_raise : (s : System) (x y : ℕ → Rational) (q : ℕ) (a c : Rational) → x q ≡ y q → a ≡ c → CanRaise s x q a → CanRaise s y q c
same_raise s x y q a c e f (inl h) =
    let P : Rational → Type 0 = λ t. IfSome (upper_of s q) (λ u. t <ℚ u) in
    inl (subst (λ t. zero_ℚ <ℚ t) f h.0, subst P e h.1)
same_raise s x y q a c e f (inr h) =
    let P : Rational → Type 0 = λ t. IfSome (lower_of s q) (λ l. l <ℚ t) in
    inr (subst (λ t. t <ℚ zero_ℚ) f h.0, subst P e h.1)

same_mend : (s : System) (x y : ℕ → Rational) (p : Place) (q : ℕ) (a c : Rational) → x q ≡ y q → a ≡ c → CanMend s x p q a → CanMend s y p q c
same_mend s x y Basic q a c e f h = h
same_mend s x y AtLower q a c e f h = same_raise s x y q a c e f h
same_mend s x y AtUpper q a c e f h = same_raise s x y q (neg_ℚ a) (neg_ℚ c) e (ap neg_ℚ f) h
same_mend s x y AtZero q a c e f h = h

pub same_reach : (s : System) (x y r w : ℕ → Rational) (t : Rational) (v : ℕ) (p : Place) → x v ≡ y v → r v ≡ w v → Reaches s x r t v p → Reaches s y w t v p
same_reach s x y r w t v Basic e f h = h
same_reach s x y r w t v AtLower e f h = (subst (λ u. u <ℚ zero_ℚ) f h.0, h.1 ∙ ap Some (ap₂ (λ a c. a +ℚ t *ℚ c) e f))
same_reach s x y r w t v AtUpper e f h = (subst (λ u. zero_ℚ <ℚ u) f h.0, h.1 ∙ ap Some (ap₂ (λ a c. a +ℚ t *ℚ c) e f))
same_reach s x y r w t v AtZero e f h = h

-- ---- one place

-- where the bounds are in order, a number is past one of them at most
not_both : (s : System) (v : ℕ) (a l u : Rational) → AreBoundsInOrder s → lower_of s v ≡ Some l → upper_of s v ≡ Some u → a <ℚ l → u <ℚ a → ⊥
not_both s v a l u order is_lower is_upper low high = Q.lt-not-le u l (Q.lt_trans u a l high low) (rw (is_lower, is_upper) at (order v))

pub passed_once : (s : System) (x : ℕ → Rational) (v : ℕ) (p o : Place) → AreBoundsInOrder s → HasPassed s x v p → HasPassed s x v o → p ≡ o
passed_once s x v Basic o order h k = absurd h
passed_once s x v AtZero o order h k = absurd h
passed_once s x v AtLower Basic order h k = absurd k
passed_once s x v AtLower AtLower order h k = refl
passed_once s x v AtLower AtUpper order h k = absurd (not_both s v (x v) h.0 k.0 order h.1 k.1 h.2 k.2)
passed_once s x v AtLower AtZero order h k = absurd k
passed_once s x v AtUpper Basic order h k = absurd k
passed_once s x v AtUpper AtLower order h k = absurd (not_both s v (x v) k.0 h.0 order k.1 h.1 k.2 h.2)
passed_once s x v AtUpper AtUpper order h k = refl
passed_once s x v AtUpper AtZero order h k = absurd k

not_both_signs : (a : Rational) → a <ℚ zero_ℚ → zero_ℚ <ℚ a → ⊥
not_both_signs a low high = Q.lt-not-le a zero_ℚ low (Q.le_of_lt zero_ℚ a high)

reached_once : (s : System) (x r : ℕ → Rational) (t : Rational) (v : ℕ) (p o : Place) → Reaches s x r t v p → Reaches s x r t v o → p ≡ o
reached_once s x r t v Basic o h k = absurd h
reached_once s x r t v AtZero o h k = absurd h
reached_once s x r t v AtLower Basic h k = absurd k
reached_once s x r t v AtLower AtLower h k = refl
reached_once s x r t v AtLower AtUpper h k = absurd (not_both_signs (r v) h.0 k.0)
reached_once s x r t v AtLower AtZero h k = absurd k
reached_once s x r t v AtUpper Basic h k = absurd k
reached_once s x r t v AtUpper AtLower h k = absurd (not_both_signs (r v) k.0 h.0)
reached_once s x r t v AtUpper AtUpper h k = refl
reached_once s x r t v AtUpper AtZero h k = absurd k

-- ---- one choice in each phase

module _ (s : System) (b : List Place) (d e : Dictionary) (x y : ℕ → Rational) (same : HaveSameNumbers s b d e x y) where
  pub basic_value : (v : ℕ) → IsBasic b v → x v ≡ y v
  basic_value v h = same.values v (rw (← same.places) (basic_known b v h))

  resting_value : (q : ℕ) → IsResting b q → x q ≡ y q
  resting_value q h = same.values q (rw (← same.places) h.known)

  pub same_outside : (v : ℕ) → IsOutside s b x v → IsOutside s b y v
  same_outside v h = record {
    basic = h.basic;
    outside = elim h.outside [
      | inl low ↦ inl (same_passed s x y v AtLower (basic_value v h.basic) low)
      | inr high ↦ inr (same_passed s x y v AtUpper (basic_value v h.basic) high)
    ];
  }

  pub same_mends : (v : ℕ) (p : Place) → IsBasic b v → (q : ℕ) → Mends s b x d v p q → Mends s b y e v p q
  same_mends v p basic q h = record {
    resting = h.resting;
    can_mend = same_mend s x y p q (rate_of d q v) (rate_of e q v) (resting_value q h.resting) (same.rates v q basic) h.can_mend;
  }

  pub same_improves : (q : ℕ) → Improves s b x d q → Improves s b y e q
  same_improves q h = record {
    resting = h.resting;
    can_improve = same_raise s x y q (neg_ℚ (gain_of d q)) (neg_ℚ (gain_of e q)) (resting_value q h.resting) (ap neg_ℚ (same.gains q)) h.can_improve;
  }

  pub same_heading : (q : ℕ) (f g : Rational) → IsHeading d q f → IsHeading e q g → f ≡ g
  same_heading q f g (inl h) (inl k) = h.1 ∙ sym k.1
  same_heading q f g (inl h) (inr k) = absurd (not_both_signs (gain_of e q) (subst (λ t. t <ℚ zero_ℚ) (same.gains q) h.0) k.0)
  same_heading q f g (inr h) (inl k) = absurd (not_both_signs (gain_of e q) k.0 (subst (λ t. zero_ℚ <ℚ t) (same.gains q) h.0))
  same_heading q f g (inr h) (inr k) = h.1 ∙ sym k.1

  pub same_direction : (q : ℕ) (f g : Rational) (r w : ℕ → Rational) → f ≡ g → IsDirection b d q f r → IsDirection b e q g w → (v : ℕ) → v < size s → r v ≡ w v
  same_direction q f g r w heads h k v known = elim (is_basic_or b v (rw same.places known)) [
    | inl basic ↦ h.basics v basic ∙ ap₂ ◌*ℚ◌ heads (same.rates v q basic) ∙ sym (k.basics v basic)
    | inr rests ↦ elim (ℕ_discrete v q) [
      | yes mover ↦ ap r mover ∙ h.mover ∙ heads ∙ sym k.mover ∙ ap w (sym mover)
      | no other ↦ h.others v rests other ∙ sym (k.others v rests other)
    ]
  ]

-- in the first phase the leaving variable, its place and the entering variable are determined, in this order
one_mend : (s : System) (b : List Place) (d e : Dictionary) (x y : ℕ → Rational) (q j v w : ℕ) (p o : Place) → HaveSameNumbers s b d e x y → AreBoundsInOrder s
    → MendStep s b x d q v p → MendStep s b y e j w o → exchanged b q v p ≡ exchanged b j w o
one_mend s b d e x y q j v w p o same order h k =
    let back = turned s b d e x y same in
    let leaves : v ≡ w = same_least (IsOutside s b x) (IsOutside s b y) v w (same_outside s b d e x y same) (same_outside s b e d y x back) h.first_outside k.first_outside in
    let basic : IsBasic b v = h.first_outside.holds.basic in
    let at_v : MendStep s b y e j v o = (let P : ℕ → Type 0 = λ u. MendStep s b y e j u o in subst P (sym leaves) k) in
    let place : p ≡ o = passed_once s y v p o order (same_passed s x y v p (basic_value s b d e x y same v basic) h.passed) at_v.passed in
    let at_p : MendStep s b y e j v p = (let P : Place → Type 0 = λ u. MendStep s b y e j v u in subst P (sym place) at_v) in
    let enters : q ≡ j = same_least (Mends s b x d v p) (Mends s b y e v p) q j (same_mends s b d e x y same v p basic) (same_mends s b e d y x back v p basic) h.first_mending at_p.first_mending in
    rw (enters, leaves, place) refl

-- ---- the first bound that is reached

-- two points and two directions have the same numbers
record MoveAlike (s : System) (x y r w : ℕ → Rational) : Type 0 where
  points : (v : ℕ) → v < size s → x v ≡ y v
  moves : (v : ℕ) → v < size s → r v ≡ w v

backwards : (s : System) (x y r w : ℕ → Rational) → MoveAlike s x y r w → MoveAlike s y x w r
backwards s x y r w h = record { points = λ v k. sym (h.points v k); moves = λ v k. sym (h.moves v k) }

alike_reach : (s : System) (x y r w : ℕ → Rational) (t : Rational) (v : ℕ) (p : Place) → MoveAlike s x y r w → v < size s → Reaches s x r t v p → Reaches s y w t v p
alike_reach s x y r w t v p h k reach = same_reach s x y r w t v p (h.points v k) (h.moves v k) reach

-- nothing reaches a bound sooner, along the other direction too
none_sooner : (s : System) (x y r w : ℕ → Rational) (t u : Rational) (v m : ℕ) (o : Place) → MoveAlike s y x w r → m < size s → IsFirst s x r t v → Reaches s y w u m o → t ≤ℚ u
none_sooner s x y r w t u v m o h k first reach = first.no_sooner u m o k (alike_reach s y x w r u m o h k reach)

none_lower : (s : System) (x y r w : ℕ → Rational) (t : Rational) (v m : ℕ) (o : Place) → MoveAlike s y x w r → m < size s → IsFirst s x r t v → Reaches s y w t m o → ¬ (m < v)
none_lower s x y r w t v m o h k first reach low = first.least m o low (alike_reach s y x w r t m o h k reach)

-- one step, one least variable and one place
one_reach : (s : System) (x y r w : ℕ → Rational) (t u : Rational) (v m : ℕ) (p o : Place) → MoveAlike s x y r w → v < size s → m < size s
    → Reaches s x r t v p → Reaches s y w u m o → IsFirst s x r t v → IsFirst s y w u m → (v ≡ m) × (p ≡ o)
one_reach s x y r w t u v m p o alike v_known m_known reach other first other_first = (leaves, place)
  where
    back : MoveAlike s y x w r
    back = backwards s x y r w alike

    step : t ≡ u
    step = Q.le_antisymm t u (none_sooner s x y r w t u v m o back m_known first other) (none_sooner s y x w r u t m v p alike v_known other_first reach)

    other_there : Reaches s y w t m o
    other_there = let P : Rational → Type 0 = λ a. Reaches s y w a m o in subst P (sym step) other

    first_there : IsFirst s y w t m
    first_there = let P : Rational → Type 0 = λ a. IsFirst s y w a m in subst P (sym step) other_first

    leaves : v ≡ m
    leaves =
        let high = none_lower s x y r w t v m o back m_known first other_there in
        let low = none_lower s y x w r t m v p alike v_known first_there reach in
        omega arith

    place : p ≡ o
    place =
        let P : ℕ → Type 0 = λ a. Reaches s x r t a o in
        reached_once s x r t v p o reach (subst P (sym leaves) (alike_reach s y x w r t m o back m_known other_there))

-- in the second phase the entering variable, its direction, and the first bound that is reached
one_improve : (s : System) (b : List Place) (d e : Dictionary) (x y : ℕ → Rational) (q j v w : ℕ) (p o : Place) → HaveSameNumbers s b d e x y
    → ImproveStep s b x d q v p → ImproveStep s b y e j w o → exchanged b q v p ≡ exchanged b j w o
one_improve s b d e x y q j v w p o same h k =
    let back = turned s b d e x y same in
    let enters : q ≡ j = same_least (Improves s b x d) (Improves s b y e) q j (same_improves s b d e x y same) (same_improves s b e d y x back) h.first_improving k.first_improving in
    let at_q : ImproveStep s b y e q w o = (let P : ℕ → Type 0 = λ u. ImproveStep s b y e u w o in subst P (sym enters) k) in
    let heads : h.heading ≡ at_q.heading = same_heading s b d e x y same q h.heading at_q.heading h.is_heading at_q.is_heading in
    let alike : MoveAlike s x y h.direction at_q.direction = record {
      points = same.values;
      moves = same_direction s b d e x y same q h.heading at_q.heading h.direction at_q.direction heads h.is_direction at_q.is_direction;
    } in
    let reached = one_reach s x y h.direction at_q.direction h.step at_q.step v w p o alike h.known at_q.known h.reaches at_q.reaches h.first at_q.first in
    let leaves : v ≡ w = reached.0 in
    let place : p ≡ o = reached.1 in
    rw (enters, leaves, place) refl

-- ---- one step

-- both steps are of one phase
one_choice : (s : System) (b : List Place) (d e : Dictionary) (x y : ℕ → Rational) (q j v w : ℕ) (p o : Place) → HaveSameNumbers s b d e x y → AreBoundsInOrder s
    → MendStep s b x d q v p ⊎ ImproveStep s b x d q v p → MendStep s b y e j w o ⊎ ImproveStep s b y e j w o → exchanged b q v p ≡ exchanged b j w o
one_choice s b d e x y q j v w p o same order (inl h) (inl k) = one_mend s b d e x y q j v w p o same order h k
one_choice s b d e x y q j v w p o same order (inl h) (inr k) = absurd (k.none_outside v (same_outside s b d e x y same v h.first_outside.holds))
one_choice s b d e x y q j v w p o same order (inr h) (inl k) = absurd (h.none_outside w (same_outside s b e d y x (turned s b d e x y same) w k.first_outside.holds))
one_choice s b d e x y q j v w p o same order (inr h) (inr k) = one_improve s b d e x y q j v w p o same h k

pub one_step : (s : System) (b next other : List Place) → BlandStep s b next → BlandStep s b other → next ≡ other
one_step s b next other h k =
    let same : HaveSameNumbers s b h.dictionary k.dictionary h.point k.point = same_numbers s b h.dictionary k.dictionary h.point k.point h.is_dictionary k.is_dictionary h.is_point k.is_point in
    h.exchange
    ∙ one_choice s b h.dictionary k.dictionary h.point k.point h.enters k.enters h.leaves k.leaves h.place k.place same h.in_order h.chosen k.chosen
    ∙ sym k.exchange

-- ---- one run

pub one_start : (s : System) (b c : List Place) → IsStart s b → IsStart s c → b ≡ c
one_start s b c h k = ext_get_or AtZero b c (h.size ∙ sym k.size) (λ v known. at v (rw (← h.size) known))
  where
    at : (v : ℕ) → v < size s → place_of b v ≡ place_of c v
    at v known = elim (dec_lt v s.columns) [
      | yes column ↦ h.columns v column ∙ sym (k.columns v column)
      | no form ↦
          let same : s.columns + (v - s.columns) ≡ v = omega arith in
          let P : ℕ → Type 0 = λ u. place_of b u ≡ place_of c u in
          subst P same (h.forms (v - s.columns) (omega arith) ∙ sym (k.forms (v - s.columns) (omega arith)))
    ]

pub one_run : (s : System) (b c : List Place) (before others : List (List Place)) → IsRun s b before → IsRun s c others → length before ≡ length others → (b ≡ c) × (before ≡ others)
one_run s b c [] [] h k e = (one_start s b c h k, refl)
one_run s b c [] (o ∷ others) h k e = absurd (omega arith)
one_run s b c (p ∷ before) [] h k e = absurd (omega arith)
one_run s b c (p ∷ before) (o ∷ others) h k e =
    let last = one_run s p o before others h.1 k.1 (omega arith) in
    let P : List Place → Type 0 = λ u. BlandStep s u c in
    (one_step s p b c h.0 (subst P (sym last.0) k.0), ap₂ ◌∷◌ last.0 last.1)

-- no run goes on past a basis from which no step leads
pub none_longer : (s : System) (b c : List Place) (before others : List (List Place)) → IsRun s b before → IsFinal s b → IsRun s c others → length others ≤ length before
none_longer s b c before [] h final k = omega arith
none_longer s b c before (o ∷ others) h final k =
    let within = none_longer s b o before others h final k.1 in
    elim (dec_lt (length others) (length before)) [
      | yes shorter ↦ omega arith
      | no full ↦
          let last = one_run s b o before others h k.1 (omega arith) in
          let P : List Place → Type 0 = λ u. BlandStep s u c in
          absurd (final c (subst P (sym last.0) k.0))
    ]

pub one_end : (s : System) (b c : List Place) (before others : List (List Place)) → IsRun s b before → IsFinal s b → IsRun s c others → IsFinal s c → (b ≡ c) × (before ≡ others)
one_end s b c before others h b_final k c_final =
    let high = none_longer s b c before others h b_final k in
    let low = none_longer s c b others before k c_final h in
    one_run s b c before others h k (omega arith)
