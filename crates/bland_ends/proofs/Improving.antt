-- Steps of the second phase: they stay inside all bounds, never make the objective worse, and on a loop all have length 0.
use Rattle.std.proofs.Common.{◌≡◌, ◌∙◌, ℕ, ◌<◌, List, [], ◌∷◌, ◌++◌, length, refl, sym, ap, subst, inl, inr, Option, Some, None, IfSome}
use Rattle.rational.specs.Rational.{Rational, zero_ℚ, neg_ℚ, inv_ℚ, ◌+ℚ◌, ◌-ℚ◌, ◌*ℚ◌, ◌≤ℚ◌, ◌<ℚ◌}
use Rattle.milp.specs.Form.{value_at}
use Rattle.milp.specs.Points.{IsWithin}
use Rattle.verdicts.proofs.Laws.{mul-le-mul_neg, neg-zero, neg_le}
use Rattle.rational.proofs.Laws as Q
use Rattle.basis.specs.System.{System, size, lower_of, upper_of, IsInside, AllInside, AreBoundsInOrder}
use Rattle.basis.specs.Dictionary.{Dictionary, IsDictionary, gain_of, RestsAt, IsBasicPoint}
use Rattle.basis.specs.Bland.{exchanged, Reaches, ImproveStep, BlandStep}
use Rattle.basis.specs.declared.Place.{Place}
use Rattle.basis.specs.declared.Place.TheVariants.{Basic, AtLower, AtUpper, AtZero}
use Rattle.basis.proofs.Laws.{above_some, after, arrives, below_some, direction_value, le_or_less, neg_below, none_outside_inside, point_after, same_point, step_has, value-after, value_same-resting}
use Rattle.bland_ends.proofs.Chains.{Chain, join, one_more}
use Rattle.bland_ends.proofs.Signs.{factor_up, product_above, product_down}
use Rattle.bland_ends.proofs.Turning.{IsTurning, way_falls, no_way}

-- a step of the second phase from g to h
pub record IsImproving (s : System) (g h : List Place) : Type 0 where
  pub in_order : AreBoundsInOrder s
  pub dictionary : Dictionary
  pub is_dictionary : IsDictionary s g dictionary
  pub point : ℕ → Rational
  pub is_point : IsBasicPoint s g point
  pub enters : ℕ
  pub leaves : ℕ
  pub place : Place
  pub step : ImproveStep s g point dictionary enters leaves place
  pub exchange : h ≡ exchanged g enters leaves place

pub as_step : (s : System) (g h : List Place) → IsImproving s g h → BlandStep s g h
as_step s g h m = record {
  in_order = m.in_order;
  dictionary = m.dictionary;
  is_dictionary = m.is_dictionary;
  point = m.point;
  is_point = m.is_point;
  enters = m.enters;
  leaves = m.leaves;
  place = m.place;
  chosen = inr m.step;
  exchange = m.exchange;
}

-- ---- no step goes back, or out of a bound

more : (a c : Rational) → zero_ℚ ≤ℚ c → a ≤ℚ a +ℚ c
more a c h = rw (Q.add-zero a) at (Q.add-le-add a a zero_ℚ c (Q.le_refl a) h)

less : (a c : Rational) → c ≤ℚ zero_ℚ → a +ℚ c ≤ℚ a
less a c h = rw (Q.add-zero a) at (Q.add-le-add a a c zero_ℚ (Q.le_refl a) h)

more_back : (a c : Rational) → a ≤ℚ a +ℚ c → zero_ℚ ≤ℚ c
more_back a c h = rw (Q.cancel_right a c, Q.add_comm (neg_ℚ a) a ∙ Q.add-neg a) at (Q.add-le-add (neg_ℚ a) (neg_ℚ a) a (a +ℚ c) (Q.le_refl (neg_ℚ a)) h)

less_back : (a c : Rational) → a +ℚ c ≤ℚ a → c ≤ℚ zero_ℚ
less_back a c h = rw (Q.cancel_right a c, Q.add_comm (neg_ℚ a) a ∙ Q.add-neg a) at (Q.add-le-add (neg_ℚ a) (neg_ℚ a) (a +ℚ c) a (Q.le_refl (neg_ℚ a)) h)

not_back : (s : System) (x w : ℕ → Rational) (t : Rational) (v : ℕ) (p : Place) → IsInside s x v → Reaches s x w t v p → zero_ℚ ≤ℚ t
not_back s x w t v Basic inside h = absurd h
not_back s x w t v AtZero inside h = absurd h
not_back s x w t v AtUpper inside h =
    let up : zero_ℚ ≤ℚ t *ℚ w v = more_back (x v) (t *ℚ w v) (rw h.1 at inside.high) in
    factor_up t (w v) h.0 up
not_back s x w t v AtLower inside h =
    let down : t *ℚ w v ≤ℚ zero_ℚ = less_back (x v) (t *ℚ w v) (rw h.1 at inside.low) in
    factor_up t (neg_ℚ (w v)) (neg_below (w v) h.0) (rw (Q.mul_neg t (w v)) (rw neg-zero at (neg_le (t *ℚ w v) zero_ℚ down)))

lands_at : (s : System) (x w : ℕ → Rational) (t : Rational) (v : ℕ) (p : Place) → Reaches s x w t v p → RestsAt s p v (x v +ℚ t *ℚ w v)
lands_at s x w t v Basic h = absurd h
lands_at s x w t v AtLower h = h.1
lands_at s x w t v AtUpper h = h.1
lands_at s x w t v AtZero h = absurd h

module _ (s : System) (g h : List Place) (m : IsImproving s g h) where
  pub inside : AllInside s m.point
  inside = none_outside_inside s g m.point m.in_order m.is_dictionary.size m.is_point m.step.none_outside

  forth : zero_ℚ ≤ℚ m.step.step
  forth = not_back s m.point m.step.direction m.step.step m.leaves m.place (inside m.leaves m.step.known) m.step.reaches

  -- the point after the step
  abbrev pub next_point : ℕ → Rational
  next_point = after m.point m.step.step m.step.direction

  pub is_next : IsBasicPoint s h next_point
  is_next =
      let P : List Place → Type 0 = λ u. IsBasicPoint s u next_point in
      let known : m.leaves < length g = rw m.is_dictionary.size m.step.known in
      subst P (sym m.exchange) (point_after s g m.dictionary m.point m.enters m.leaves m.place m.step.heading m.step.step m.step.direction m.is_dictionary m.is_point m.step.is_direction
      m.step.first_improving.holds.resting.known known (lands_at s m.point m.step.direction m.step.step m.leaves m.place m.step.reaches))

  low_after : (v : ℕ) → v < size s → (k : Option Rational) → lower_of s v ≡ k → IfSome k (λ l. l ≤ℚ m.point v) → IfSome k (λ l. l ≤ℚ next_point v)
  low_after v known None is i = tt
  low_after v known (Some l) is i = elim (le_or_less zero_ℚ (m.step.direction v)) [
    | inl up ↦ Q.le_trans l (m.point v) _ i (more (m.point v) _ (rw (Q.mul-zero m.step.step) at (Q.mul-le-mul m.step.step zero_ℚ (m.step.direction v) forth up)))
    | inr down ↦
        let there = arrives (m.point v) (m.step.direction v) l (below_some (m.step.direction v) down) in
        let u : Rational = (l -ℚ m.point v) *ℚ inv_ℚ (m.step.direction v) in
        let sooner : m.step.step ≤ℚ u = m.step.first.no_sooner u v AtLower known (down, is ∙ ap Some there) in
        let P : Rational → Type 0 = λ a. a ≤ℚ next_point v in
        subst P (sym there) (Q.add-le-add (m.point v) (m.point v) (u *ℚ m.step.direction v) (m.step.step *ℚ m.step.direction v) (Q.le_refl (m.point v))
        (rw (Q.mul_comm u (m.step.direction v), Q.mul_comm m.step.step (m.step.direction v)) (mul-le-mul_neg (m.step.direction v) m.step.step u (Q.le_of_lt _ _ down) sooner)))
  ]

  high_after : (v : ℕ) → v < size s → (k : Option Rational) → upper_of s v ≡ k → IfSome k (λ l. m.point v ≤ℚ l) → IfSome k (λ l. next_point v ≤ℚ l)
  high_after v known None is i = tt
  high_after v known (Some l) is i = elim (le_or_less (m.step.direction v) zero_ℚ) [
    | inl down ↦ Q.le_trans _ (m.point v) l (less (m.point v) _ (rw (Q.mul-zero m.step.step) at (Q.mul-le-mul m.step.step (m.step.direction v) zero_ℚ forth down))) i
    | inr up ↦
        let there = arrives (m.point v) (m.step.direction v) l (above_some (m.step.direction v) up) in
        let u : Rational = (l -ℚ m.point v) *ℚ inv_ℚ (m.step.direction v) in
        let sooner : m.step.step ≤ℚ u = m.step.first.no_sooner u v AtUpper known (up, is ∙ ap Some there) in
        let P : Rational → Type 0 = λ a. next_point v ≤ℚ a in
        subst P (sym there) (Q.add-le-add (m.point v) (m.point v) (m.step.step *ℚ m.step.direction v) (u *ℚ m.step.direction v) (Q.le_refl (m.point v))
        (rw (Q.mul_comm u (m.step.direction v), Q.mul_comm m.step.step (m.step.direction v)) (Q.mul-le-mul (m.step.direction v) m.step.step u (Q.le_of_lt _ _ up) sooner)))
  ]

  inside_next : AllInside s next_point
  inside_next v known = record { low = low_after v known (lower_of s v) refl (inside v known).low; high = high_after v known (upper_of s v) refl (inside v known).high }

  -- each point of the next basis is this one
  pub only_next : (y : ℕ → Rational) → IsBasicPoint s h y → (v : ℕ) → v < size s → y v ≡ next_point v
  only_next y k = let all = step_has s g h (as_step s g h m) in same_point s h all.dictionary y next_point all.is_dictionary k is_next

  pub leads_inside : (y : ℕ → Rational) → IsBasicPoint s h y → AllInside s y
  leads_inside y k v known =
      let P : Rational → Type 0 = λ a. IsWithin (lower_of s v) (upper_of s v) a in
      subst P (sym (only_next y k v known)) (inside_next v known)

  -- the objective does not rise, and stays only where the step has length 0
  next_value : value_at next_point s.objective ≡ value_at m.point s.objective +ℚ m.step.step *ℚ (m.step.heading *ℚ gain_of m.dictionary m.enters)
  next_value = value-after m.point m.step.step m.step.direction s.objective
      ∙ ap (λ t. value_at m.point s.objective +ℚ m.step.step *ℚ t) (direction_value s g m.dictionary m.enters m.step.heading m.step.direction m.is_dictionary m.step.is_direction)

  falls_down : m.step.heading *ℚ gain_of m.dictionary m.enters <ℚ zero_ℚ
  falls_down = way_falls m.dictionary m.enters m.step.heading m.step.is_heading

  pub not_worse : value_at next_point s.objective ≤ℚ value_at m.point s.objective
  not_worse = rw next_value (less (value_at m.point s.objective) _ (product_down m.step.step _ forth (Q.le_of_lt _ _ falls_down)))

  pub still_where_same : value_at m.point s.objective ≤ℚ value_at next_point s.objective → m.step.step ≡ zero_ℚ
  still_where_same k = elim (le_or_less m.step.step zero_ℚ) [
    | inl low ↦ Q.le_antisymm m.step.step zero_ℚ low forth
    | inr high ↦
        let rise : zero_ℚ ≤ℚ m.step.step *ℚ (m.step.heading *ℚ gain_of m.dictionary m.enters) = more_back (value_at m.point s.objective) _ (rw next_value at k) in
        absurd (Q.lt-not-le _ _ (product_above m.step.step (neg_ℚ (m.step.heading *ℚ gain_of m.dictionary m.enters)) high (neg_below _ falls_down))
        (rw (Q.mul_neg m.step.step (m.step.heading *ℚ gain_of m.dictionary m.enters)) (rw neg-zero at (neg_le zero_ℚ _ rise))))
  ]

-- ---- loops

-- two points of a basis have one value
value_alike : (s : System) (b : List Place) (d : Dictionary) (x y : ℕ → Rational) → IsDictionary s b d → IsBasicPoint s b x → IsBasicPoint s b y → value_at x s.objective ≡ value_at y s.objective
value_alike s b d x y is_d h k =
    is_d.same_objective x h.solves
    ∙ value_same-resting b x y d.objective (λ v r. same_point s b d x y is_d h k v (rw (← is_d.size) r.known)) is_d.over_resting.objective
    ∙ sym (is_d.same_objective y k.solves)

never_worse : (s : System) (ms : List (List Place)) (e f : List Place) (x y : ℕ → Rational) (d : Dictionary) → Chain (IsImproving s) ms e f → IsDictionary s f d → IsBasicPoint s e x → IsBasicPoint s f y
    → value_at y s.objective ≤ℚ value_at x s.objective
never_worse s [] e f x y d way is_d h k =
    let P : List Place → Type 0 = λ u. IsBasicPoint s u x in
    rw (value_alike s f d y x is_d k (subst P way h)) (Q.le_refl _)
never_worse s (m ∷ ms) e f x y d way is_d h k =
    let t : IsImproving s e m = way.0 in
    rw (value_alike s e t.dictionary x t.point t.is_dictionary h t.is_point)
    (Q.le_trans _ _ _ (never_worse s ms m f (next_point s e m t) y d way.1 is_d (is_next s e m t) k) (not_worse s e m t))

-- a step from whose end a way leads back has length 0
still : (s : System) (g h : List Place) (ms : List (List Place)) (m : IsImproving s g h) → Chain (IsImproving s) ms h g → m.step.step ≡ zero_ℚ
still s g h ms m way = still_where_same s g h m (never_worse s ms h g (next_point s g h m) m.point m.dictionary way m.is_dictionary (is_next s g h m) m.is_point)

-- on a loop all steps stay at one point
pub all_turning : (s : System) (b : List Place) (x : ℕ → Rational) (before ms : List (List Place)) (e : List Place) → Chain (IsImproving s) before b e → Chain (IsImproving s) ms e b
    → ((y : ℕ → Rational) → IsBasicPoint s e y → (v : ℕ) → v < size s → y v ≡ x v) → Chain (IsTurning s x) ms e b
all_turning s b x before [] e from way at = way
all_turning s b x before (m ∷ ms) e from way at =
    let t : IsImproving s e m = way.0 in
    let none : t.step.step ≡ zero_ℚ = still s e m (ms ++ before) t (join (IsImproving s) ms before m b e way.1 from) in
    let turning : IsTurning s x e m = record {
      in_order = t.in_order;
      dictionary = t.dictionary;
      is_dictionary = t.is_dictionary;
      point = t.point;
      is_point = t.is_point;
      at = at t.point t.is_point;
      enters = t.enters;
      leaves = t.leaves;
      place = t.place;
      step = t.step;
      still = none;
      exchange = t.exchange;
    } in (
      turning,
      all_turning s b x (before ++ (m ∷ [])) ms m (one_more (IsImproving s) before b e m from t) way.1
          (λ y k v known. only_next s e m t y k v known ∙ ap (λ u. t.point v +ℚ u *ℚ t.step.direction v) none ∙ no_way (t.point v) (t.step.direction v) ∙ at t.point t.is_point v known),
    )
