-- There is no loop of steps of the first phase.
use Rattle.std.proofs.Common.{◌≡◌, ◌∙◌, ℕ, ◌<◌, ◌≤◌, List, length, refl, sym, ap, subst, arith, inl, inr, Option, Some, None, IfSome}
use mathlib.Core.Path.{ap₂}
use Rattle.std.proofs.Math.Decide.{ℕ_discrete, dec_lt}
use Rattle.rational.specs.Rational.{Rational, zero_ℚ, one_ℚ, neg_ℚ, ◌+ℚ◌, ◌-ℚ◌, ◌*ℚ◌, ◌≤ℚ◌, ◌<ℚ◌}
use Rattle.milp.specs.Form.{value_at}
use Rattle.std.proofs.lemmas.Option.{same_Some}
use Rattle.verdicts.proofs.Laws.{neg-zero}
use Rattle.verdicts.specs.WeightedSums.{AllBelow}
use Rattle.rational.proofs.Laws as Q
use Rattle.basis.specs.System.{System, size, lower_of, upper_of, IsInside, AreBoundsInOrder, CanRise, CanFall}
use Rattle.basis.specs.Dictionary.{place_of, IsBasic, IsResting, Dictionary, IsDictionary, rate_of, RestsAt, IsBasicPoint}
use Rattle.basis.specs.Bland.{exchanged, IsLeast, HasPassed, IsOutside, CanRaise, Mends, MendStep}
use Rattle.basis.specs.declared.Place.{Place}
use Rattle.basis.specs.declared.Place.TheVariants.{Basic, AtLower, AtUpper, AtZero}
use Rattle.basis.proofs.Laws.{after, basic_known, below, is_basic_or, mend_exchanges, not_less, not_resting, resting_inside, rests_or, same_place, value-after}
use Rattle.bland_ends.proofs.Chains.{Pivot, IsGreatest}
use Rattle.bland_ends.proofs.Signs.{above_zero, against, below_zero, falls, form_down, form_up, irreflexive, le_lt, lt_le, rises, stuck}

-- a step of the first phase from g to h
pub record IsMending (s : System) (g h : List Place) : Type 0 where
  pub in_order : AreBoundsInOrder s
  pub dictionary : Dictionary
  pub is_dictionary : IsDictionary s g dictionary
  pub point : ℕ → Rational
  pub is_point : IsBasicPoint s g point
  pub enters : ℕ
  pub leaves : ℕ
  pub place : Place
  pub step : MendStep s g point dictionary enters leaves place
  pub exchange : h ≡ exchanged g enters leaves place

abbrev pub pivot_of : (s : System) (g h : List Place) → IsMending s g h → Pivot (size s) g h
pivot_of s g h m =
    let e = mend_exchanges s g m.point m.dictionary m.enters m.leaves m.place m.step in
    record {
      enters = m.enters;
      leaves = m.leaves;
      place = m.place;
      known = (let P : ℕ → Type 0 = λ u. m.enters < u in subst P m.is_dictionary.size e.2.known);
      resting = e.2;
      basic = e.1;
      stops = e.0;
      exchange = m.exchange;
    }

-- the variables before the one that leaves are inside their bounds
inside_before : (s : System) (b : List Place) (x : ℕ → Rational) (v : ℕ) → AreBoundsInOrder s → IsBasicPoint s b x → v < length b → ¬ (IsOutside s b x v) → IsInside s x v
inside_before s b x v order h known n = elim (is_basic_or b v known) [
  | inl basic ↦ record {
    low = low (lower_of s v) (λ l m j. n (record { basic = basic; outside = inl (l, m, j) }));
    high = high (upper_of s v) (λ u m j. n (record { basic = basic; outside = inr (u, m, j) }));
  }
  | inr rests ↦ resting_inside s b x v order h rests
]
  where
    low : (k : Option Rational) → ((l : Rational) → k ≡ Some l → ¬ (x v <ℚ l)) → IfSome k (λ l. l ≤ℚ x v)
    low None h = tt
    low (Some l) h = not_less (x v) l (h l refl)

    high : (k : Option Rational) → ((u : Rational) → k ≡ Some u → ¬ (u <ℚ x v)) → IfSome k (λ u. x v ≤ℚ u)
    high None h = tt
    high (Some u) h = not_less u (x v) (h u refl)

-- x less y
abbrev gap : (ℕ → Rational) → (ℕ → Rational) → ℕ → Rational
gap x y = after x (neg_ℚ one_ℚ) y

gap_is : (x y : ℕ → Rational) (v : ℕ) → gap x y v ≡ x v -ℚ y v
gap_is x y v = ap (λ t. x v +ℚ t) (Q.neg_mul one_ℚ (y v) ∙ ap neg_ℚ (Q.one-mul (y v)))

-- a number that is inside can be reached from another one
may_rise : (s : System) (x y : ℕ → Rational) (v : ℕ) → IsInside s x v → zero_ℚ <ℚ gap x y v → CanRise s y v
may_rise s x y v inside h = go (upper_of s v) inside.high
  where
    go : (k : Option Rational) → IfSome k (λ u. x v ≤ℚ u) → IfSome k (λ u. y v <ℚ u)
    go None i = tt
    go (Some u) i = lt_le (y v) (x v) u (rises (x v) (y v) (rw (gap_is x y v) at h)) i

may_fall : (s : System) (x y : ℕ → Rational) (v : ℕ) → IsInside s x v → gap x y v <ℚ zero_ℚ → CanFall s y v
may_fall s x y v inside h = go (lower_of s v) inside.low
  where
    go : (k : Option Rational) → IfSome k (λ l. l ≤ℚ x v) → IfSome k (λ l. l <ℚ y v)
    go None i = tt
    go (Some l) i = le_lt l (x v) (y v) i (falls (x v) (y v) (rw (gap_is x y v) at h))

-- r, past the bound of the place p at x and resting there at y, can't go at y to where it is at x
no_return : (s : System) (x y : ℕ → Rational) (r : ℕ) (p : Place) → HasPassed s x r p → RestsAt s p r (y r)
    → (zero_ℚ <ℚ gap x y r → ¬ (CanRise s y r)) × (gap x y r <ℚ zero_ℚ → ¬ (CanFall s y r))
no_return s x y r Basic h k = absurd h
no_return s x y r AtZero h k = absurd h
no_return s x y r AtLower h k =
    let same : h.0 ≡ y r = same_Some _ _ (sym h.1 ∙ k) in
    let lower : x r <ℚ y r = subst (λ t. x r <ℚ t) same h.2 in
    (λ up can. absurd (Q.lt-not-le (x r) (y r) lower (Q.le_of_lt _ _ (rises (x r) (y r) (rw (gap_is x y r) at up)))), λ down can. irreflexive (y r) (rw k at can))
no_return s x y r AtUpper h k =
    let same : h.0 ≡ y r = same_Some _ _ (sym h.1 ∙ k) in
    let higher : y r <ℚ x r = subst (λ t. t <ℚ x r) same h.2 in
    (λ up can. irreflexive (y r) (rw k at can), λ down can. absurd (Q.lt-not-le (y r) (x r) higher (Q.le_of_lt _ _ (falls (x r) (y r) (rw (gap_is x y r) at down)))))

-- At the basis g with the point x the variable r leaves to p; at the basis h with the point y, at which r is at p, it enters and i leaves;
-- and the variables above r are alike at g and h. This can't be: the row of i at h, at x less y.
module _ (s : System) (in_order : AreBoundsInOrder s) (r : ℕ)
    (g : List Place) (x : ℕ → Rational) (d : Dictionary) (q : ℕ) (p : Place)
    (size_g : length g ≡ size s) (point_g : IsBasicPoint s g x) (out : MendStep s g x d q r p)
    (h : List Place) (y : ℕ → Rational) (e : Dictionary) (i : ℕ) (o : Place)
    (is_e : IsDictionary s h e) (point_h : IsBasicPoint s h y) (into : MendStep s h y e r i o)
    (same_place_r : place_of h r ≡ p) (above : (v : ℕ) → r < v → place_of g v ≡ place_of h v) (leaver : i ≤ r) where
  inside : (v : ℕ) → v < r → IsInside s x v
  inside v k = inside_before s g x v in_order point_g (let known = basic_known g r out.first_outside.holds.basic in omega arith) (out.first_outside.none_before v k)

  basic_i : IsBasic h i
  basic_i = into.first_outside.holds.basic

  rests_r : IsResting h r
  rests_r = into.first_mending.holds.resting

  before_r : i < r
  before_r = elim (ℕ_discrete i r) [
    | yes same ↦ absurd (rests_r.not_basic (subst (IsBasic h) same basic_i))
    | no n ↦ omega arith
  ]

  -- the sign of a term of the row, where a is 1 or -1 times the rate
  term_down : (v : ℕ) (a : Rational) → IsResting h v → (v < r → ¬ (CanRaise s y v a)) → (v ≡ r → CanRaise s y v a) → a *ℚ gap x y v ≤ℚ zero_ℚ
  term_down v a rests none can = elim (dec_lt v r) [
    | yes low ↦ stuck s y v a (gap x y v) (none low) (may_rise s x y v (inside v low)) (may_fall s x y v (inside v low))
    | no high ↦ elim (ℕ_discrete v r) [
      | yes same ↦
          let at_p : RestsAt s p r (y r) = (let P : Place → Type 0 = λ u. RestsAt s u r (y r) in subst P same_place_r (point_h.rests r rests_r.known)) in
          let ways = no_return s x y r p out.passed at_p in
          let P : ℕ → Type 0 = λ u. a *ℚ gap x y u ≤ℚ zero_ℚ in
          let C : ℕ → Type 0 = λ u. CanRaise s y u a in
          subst P (sym same) (against s y r a (gap x y r) (subst C same (can same)) ways.0 ways.1)
      | no n ↦
          let place : place_of g v ≡ place_of h v = above v (omega arith) in
          let P : Place → Type 0 = λ u. RestsAt s u v (x v) in
          let known : v < length g = (let k : v < length h = rests.known in let l : length h ≡ size s = is_e.size in omega arith) in
          let same : x v ≡ y v = same_place s (place_of h v) v (x v) (y v) rests.not_basic (subst P place (point_g.rests v known)) (point_h.rests v rests.known) in
          let none_moved : gap x y v ≡ zero_ℚ = gap_is x y v ∙ ap (λ t. t -ℚ y v) same ∙ Q.add-neg (y v) in
          rw (none_moved, Q.mul-zero a) (Q.le_refl zero_ℚ)
    ]
  ]

  row_below : AllBelow (size s) (e.row i)
  row_below = below h (size s) (e.row i) is_e.size (is_e.over_resting.rows i basic_i)

  row_value : value_at (gap x y) (e.row i) ≡ x i -ℚ y i
  row_value = value-after x (neg_ℚ one_ℚ) y (e.row i)
      ∙ ap₂ (λ t u. t +ℚ neg_ℚ one_ℚ *ℚ u) (sym (((is_e.same_points x).0 point_g.solves).values i basic_i)) (sym (((is_e.same_points y).0 point_h.solves).values i basic_i))
      ∙ gap_is x y i

  -- a term of a variable that is basic at h is 0
  no_term : (v : ℕ) → ¬ (IsResting h v) → rate_of e v i ≡ zero_ℚ
  no_term v not = not_resting h (e.row i) v (is_e.over_resting.rows i basic_i) not

  low_case : (l : Rational) → lower_of s i ≡ Some l → y i <ℚ l → (IsLeast (Mends s h y e i AtLower) r) → ⊥
  low_case l is_l passed mends =
      let up : l ≤ℚ x i = rw is_l at (inside i before_r).low in
      Q.lt-not-le _ _ (above_zero (x i) (y i) (lt_le (y i) l (x i) passed up))
      (rw row_value at (form_down (size s) (gap x y) (e.row i) row_below (λ v k. elim (rests_or h v) [
        | inl rests ↦ term_down v (rate_of e v i) rests (λ low can. mends.none_before v low (record { resting = rests; can_mend = can })) (λ same. (let P : ℕ → Type 0 = λ u. CanRaise s y u (rate_of e u i) in subst P (sym same) mends.holds.can_mend))
        | inr not ↦ rw (no_term v not, Q.zero-mul (gap x y v)) (Q.le_refl zero_ℚ)
      ])))

  high_case : (u : Rational) → upper_of s i ≡ Some u → u <ℚ y i → (IsLeast (Mends s h y e i AtUpper) r) → ⊥
  high_case u is_u passed mends =
      let down : x i ≤ℚ u = rw is_u at (inside i before_r).high in
      Q.lt-not-le _ _ (below_zero (x i) (y i) (le_lt (x i) u (y i) down passed))
      (rw row_value at (form_up (size s) (gap x y) (e.row i) row_below (λ v k. elim (rests_or h v) [
        | inl rests ↦ term_down v (neg_ℚ (rate_of e v i)) rests (λ low can. mends.none_before v low (record { resting = rests; can_mend = can })) (λ same. (let P : ℕ → Type 0 = λ w. CanRaise s y w (neg_ℚ (rate_of e w i)) in subst P (sym same) mends.holds.can_mend))
        | inr not ↦ rw (no_term v not, neg-zero, Q.zero-mul (gap x y v)) (Q.le_refl zero_ℚ)
      ])))

  pub clash : ⊥
  clash = go o into.passed into.first_mending
    where
      go : (o : Place) → HasPassed s y i o → IsLeast (Mends s h y e i o) r → ⊥
      go Basic m n = m
      go AtLower m n = low_case m.0 m.1 m.2 n
      go AtUpper m n = high_case m.0 m.1 m.2 n
      go AtZero m n = m

pub none_greatest : (s : System) (b : List Place) (r : ℕ) → ¬ (IsGreatest (IsMending s) (size s) (pivot_of s) b r)
none_greatest s b r k =
    let x : IsMending s k.exit.base k.exit.next = k.exit.on_loop.step in
    let y : IsMending s k.entry.base k.entry.next = k.entry.on_loop.step in
    let P : ℕ → Type 0 = λ u. MendStep s k.exit.base x.point x.dictionary x.enters u x.place in
    let R : ℕ → Type 0 = λ u. MendStep s k.entry.base y.point y.dictionary u y.leaves y.place in
    clash s x.in_order r k.exit.base x.point x.dictionary x.enters x.place x.is_dictionary.size x.is_point (subst P k.exit.leaves x.step)
    k.entry.base y.point y.dictionary y.leaves y.place y.is_dictionary y.is_point (subst R k.entry.enters y.step)
    k.same_place k.above k.leaver
