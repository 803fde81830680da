-- There is no loop of steps of length 0 of the second phase.
use Rattle.std.proofs.Common.{◌≡◌, ◌∙◌, ℕ, ◌<◌, ◌≤◌, ◌≢◌, List, sym, ap, subst, arith, inl, inr, Option, Some, None, IfSome}
use Rattle.std.proofs.Math.Decide.{ℕ_discrete, dec_lt}
use Rattle.rational.specs.Rational.{Rational, zero_ℚ, neg_ℚ, ◌+ℚ◌, ◌*ℚ◌, ◌≤ℚ◌, ◌<ℚ◌}
use Rattle.verdicts.specs.WeightedSums.{AllBelow}
use Rattle.verdicts.proofs.Laws.{minus_one-mul, neg-zero, neg_le}
use Rattle.rational.proofs.Laws as Q
use Rattle.basis.specs.System.{System, size, lower_of, upper_of, AllInside, AreBoundsInOrder, CanRise, CanFall, Satisfies}
use Rattle.basis.specs.Dictionary.{place_of, IsResting, Dictionary, IsDictionary, gain_of, IsBasicPoint}
use Rattle.basis.specs.Bland.{exchanged, CanRaise, IsHeading, Reaches, ImproveStep}
use Rattle.basis.specs.declared.Place.{Place}
use Rattle.basis.specs.declared.Place.TheVariants.{Basic, AtLower, AtUpper, AtZero}
use Rattle.basis.proofs.Laws.{below, direction_solves, direction_value, improve_exchanges, le_or_less, neg_above, none_outside_inside, not_resting, rests_or}
use Rattle.bland_ends.proofs.Chains.{Pivot, IsGreatest}
use Rattle.bland_ends.proofs.Signs.{against, form_up, irreflexive, stuck}

-- ---- where a step leads

-- the objective falls along the way of a step
pub way_falls : (d : Dictionary) (q : ℕ) (heading : Rational) → IsHeading d q heading → heading *ℚ gain_of d q <ℚ zero_ℚ
way_falls d q heading (inl h) = rw (h.1, Q.one-mul (gain_of d q)) h.0
way_falls d q heading (inr h) = rw (h.1, minus_one-mul (gain_of d q)) (neg_above (gain_of d q) h.0)

pub no_way : (a r : Rational) → a +ℚ zero_ℚ *ℚ r ≡ a
no_way a r = ap (λ t. a +ℚ t) (Q.zero-mul r) ∙ Q.add-zero a

-- a variable that is already at the bound that it comes to can't go there
at_bound : (s : System) (x w : ℕ → Rational) (v : ℕ) (p : Place) → Reaches s x w zero_ℚ v p → (zero_ℚ <ℚ w v → ¬ (CanRise s x v)) × (w v <ℚ zero_ℚ → ¬ (CanFall s x v))
at_bound s x w v Basic h = absurd h
at_bound s x w v AtZero h = absurd h
at_bound s x w v AtLower h = (λ up can. Q.lt-not-le _ _ up (Q.le_of_lt _ _ h.0), λ down can. irreflexive (x v) (rw (h.1, no_way (x v) (w v)) at can))
at_bound s x w v AtUpper h = (λ up can. irreflexive (x v) (rw (h.1, no_way (x v) (w v)) at can), λ down can. Q.lt-not-le _ _ down (Q.le_of_lt _ _ h.0))

-- the mover itself does not leave in a step of length 0
pub not_itself : (s : System) (b : List Place) (x : ℕ → Rational) (d : Dictionary) (q v : ℕ) (p : Place) (m : ImproveStep s b x d q v p) → m.step ≡ zero_ℚ → v ≢ q
not_itself s b x d q v p m still same =
    let R : Rational → ℕ → Type 0 = λ t u. Reaches s x m.direction t u p in
    let T : Rational → Type 0 = λ t. Reaches s x m.direction t v p in
    let U : ℕ → Type 0 = λ u. Reaches s x m.direction zero_ℚ u p in
    let there : Reaches s x m.direction zero_ℚ q p = subst U same (subst T still m.reaches) in
    let ways = at_bound s x m.direction q p there in
    let down = against s x q (neg_ℚ (gain_of d q)) (m.direction q) m.first_improving.holds.can_improve ways.0 ways.1 in
    let turned : zero_ℚ ≤ℚ m.heading *ℚ gain_of d q = turn m.heading (gain_of d q) (rw m.is_direction.mover at down) in
    Q.lt-not-le _ _ (way_falls d q m.heading m.is_heading) turned
  where
    turn : (h g : Rational) → neg_ℚ g *ℚ h ≤ℚ zero_ℚ → zero_ℚ ≤ℚ h *ℚ g
    turn h g k = rw (Q.mul_comm h g) (rw (neg-zero, Q.neg_mul g h, Q.neg_neg (g *ℚ h)) at (neg_le (neg_ℚ g *ℚ h) zero_ℚ k))

-- ---- steps of length 0

-- a step of the second phase from g to h that stays at the point x
pub record IsTurning (s : System) (x : ℕ → Rational) (g h : List Place) : Type 0 where
  pub in_order : AreBoundsInOrder s
  pub dictionary : Dictionary
  pub is_dictionary : IsDictionary s g dictionary
  pub point : ℕ → Rational
  pub is_point : IsBasicPoint s g point
  pub at : (v : ℕ) → v < size s → point v ≡ x v
  pub enters : ℕ
  pub leaves : ℕ
  pub place : Place
  pub step : ImproveStep s g point dictionary enters leaves place
  pub still : step.step ≡ zero_ℚ
  pub exchange : h ≡ exchanged g enters leaves place

abbrev pub pivot_of : (s : System) (x : ℕ → Rational) (g h : List Place) → IsTurning s x g h → Pivot (size s) g h
pivot_of s x g h m =
    let e = improve_exchanges s g m.point m.dictionary m.enters m.leaves m.place m.is_dictionary m.step in
    record {
      enters = m.enters;
      leaves = m.leaves;
      place = m.place;
      known = (let P : ℕ → Type 0 = λ u. m.enters < u in subst P m.is_dictionary.size e.1.known);
      resting = e.1;
      basic = elim e.2 [
        | inl same ↦ absurd (not_itself s g m.point m.dictionary m.enters m.leaves m.place m.step m.still same)
        | inr basic ↦ basic.0
      ];
      stops = e.0;
      exchange = m.exchange;
    }

same_raise : (s : System) (x y : ℕ → Rational) (q : ℕ) (a : Rational) → x q ≡ y q → CanRaise s x q a → CanRaise s y q a
same_raise s x y q a e (inl h) = let P : Rational → Type 0 = λ t. IfSome (upper_of s q) (λ u. t <ℚ u) in inl (h.0, subst P e h.1)
same_raise s x y q a e (inr h) = let P : Rational → Type 0 = λ t. IfSome (lower_of s q) (λ l. l <ℚ t) in inr (h.0, subst P e h.1)

-- At the basis g the variable r leaves; at the basis h, with the same point, it enters; and the variables above r are alike at g and h.
-- This can't be: the objective of h, along the way of the step from g.
module _ (s : System) (in_order : AreBoundsInOrder s) (r : ℕ)
    (g : List Place) (x : ℕ → Rational) (d : Dictionary) (q : ℕ) (p : Place)
    (is_d : IsDictionary s g d) (point_g : IsBasicPoint s g x) (out : ImproveStep s g x d q r p) (still : out.step ≡ zero_ℚ)
    (h : List Place) (y : ℕ → Rational) (e : Dictionary) (i : ℕ) (o : Place)
    (is_e : IsDictionary s h e) (into : ImproveStep s h y e r i o)
    (same_point : (v : ℕ) → v < size s → x v ≡ y v) (above : (v : ℕ) → r < v → place_of g v ≡ place_of h v) (mover : q ≤ r) where
  inside : AllInside s x
  inside = none_outside_inside s g x in_order is_d.size point_g out.none_outside

  -- no variable before r is at the bound to which it would go
  not_there : (v : ℕ) (o : Place) → v < r → ¬ (Reaches s x out.direction zero_ℚ v o)
  not_there v o low = let T : Rational → Type 0 = λ t. ¬ (Reaches s x out.direction t v o) in subst T still (out.first.least v o low)

  leaves_here : Reaches s x out.direction zero_ℚ r p
  leaves_here = let T : Rational → Type 0 = λ t. Reaches s x out.direction t r p in subst T still out.reaches

  may_rise : (v : ℕ) → v < r → v < size s → zero_ℚ <ℚ out.direction v → CanRise s x v
  may_rise v low known up = go (upper_of s v) (inside v known).high (λ is_u. not_there v AtUpper low (up, is_u ∙ ap Some (sym (no_way (x v) (out.direction v)))))
    where
      go : (k : Option Rational) → IfSome k (λ u. x v ≤ℚ u) → ¬ (k ≡ Some (x v)) → IfSome k (λ u. x v <ℚ u)
      go None i n = tt
      go (Some u) i n = elim (le_or_less u (x v)) [
        | inl low ↦ absurd (n (ap Some (Q.le_antisymm u (x v) low i)))
        | inr high ↦ high
      ]

  may_fall : (v : ℕ) → v < r → v < size s → out.direction v <ℚ zero_ℚ → CanFall s x v
  may_fall v low known down = go (lower_of s v) (inside v known).low (λ is_l. not_there v AtLower low (down, is_l ∙ ap Some (sym (no_way (x v) (out.direction v)))))
    where
      go : (k : Option Rational) → IfSome k (λ l. l ≤ℚ x v) → ¬ (k ≡ Some (x v)) → IfSome k (λ l. l <ℚ x v)
      go None i n = tt
      go (Some l) i n = elim (le_or_less (x v) l) [
        | inl high ↦ absurd (n (ap Some (Q.le_antisymm l (x v) i high)))
        | inr low ↦ low
      ]

  term_down : (v : ℕ) → v < size s → IsResting h v → neg_ℚ (gain_of e v) *ℚ out.direction v ≤ℚ zero_ℚ
  term_down v known rests = elim (dec_lt v r) [
    | yes low ↦ stuck s x v (neg_ℚ (gain_of e v)) (out.direction v)
        (λ can. into.first_improving.none_before v low (record { resting = rests; can_improve = same_raise s x y v (neg_ℚ (gain_of e v)) (same_point v known) can }))
        (may_rise v low known) (may_fall v low known)
    | no high ↦ elim (ℕ_discrete v r) [
      | yes same ↦
          let ways = at_bound s x out.direction r p leaves_here in
          let known_r : r < size s = out.known in
          let P : ℕ → Type 0 = λ u. neg_ℚ (gain_of e u) *ℚ out.direction u ≤ℚ zero_ℚ in
          subst P (sym same) (against s x r (neg_ℚ (gain_of e r)) (out.direction r)
          (same_raise s y x r (neg_ℚ (gain_of e r)) (sym (same_point r known_r)) into.first_improving.holds.can_improve) ways.0 ways.1)
      | no n ↦
          let place : place_of g v ≡ place_of h v = above v (omega arith) in
          let rests_g : IsResting g v = record { known = rw is_d.size known; not_basic = λ w. rests.not_basic (sym place ∙ w) } in
          let stays : out.direction v ≡ zero_ℚ = out.is_direction.others v rests_g (λ w. absurd (omega arith)) in
          rw (stays, Q.mul-zero (neg_ℚ (gain_of e v))) (Q.le_refl zero_ℚ)
    ]
  ]

  objective_below : AllBelow (size s) e.objective
  objective_below = below h (size s) e.objective is_e.size is_e.over_resting.objective

  solves : Satisfies s out.direction
  solves = direction_solves s g d q out.heading out.direction is_d out.is_direction

  pub clash : ⊥
  clash = Q.lt-not-le _ _ (way_falls d q out.heading out.is_heading)
      (rw (sym (is_e.same_objective out.direction solves) ∙ direction_value s g d q out.heading out.direction is_d out.is_direction) at
      (form_up (size s) out.direction e.objective objective_below (λ v k. elim (rests_or h v) [
        | inl rests ↦ term_down v k rests
        | inr not ↦ rw (not_resting h e.objective v is_e.over_resting.objective not, neg-zero, Q.zero-mul (out.direction v)) (Q.le_refl zero_ℚ)
      ])))

pub none_greatest : (s : System) (x : ℕ → Rational) (b : List Place) (r : ℕ) → ¬ (IsGreatest (IsTurning s x) (size s) (pivot_of s x) b r)
none_greatest s x b r k =
    let m : IsTurning s x k.exit.base k.exit.next = k.exit.on_loop.step in
    let n : IsTurning s x k.entry.base k.entry.next = k.entry.on_loop.step in
    let P : ℕ → Type 0 = λ u. (o : ImproveStep s k.exit.base m.point m.dictionary m.enters u m.place) × (o.step ≡ zero_ℚ) in
    let R : ℕ → Type 0 = λ u. ImproveStep s k.entry.base n.point n.dictionary u n.leaves n.place in
    let out = subst P k.exit.leaves (m.step, m.still) in
    clash s m.in_order r k.exit.base m.point m.dictionary m.enters m.place m.is_dictionary m.is_point out.0 out.1
    k.entry.base n.point n.dictionary n.leaves n.place n.is_dictionary (subst R k.entry.enters n.step)
    (λ v known. m.at v known ∙ sym (n.at v known)) k.above k.mover
