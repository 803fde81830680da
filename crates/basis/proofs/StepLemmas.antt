-- Each basis of a run has a dictionary and a point.
use Rattle.std.proofs.Common.{◌≡◌, ◌∙◌, ℕ, List, [], ◌∷◌, ◌<◌, ◌≢◌, refl, sym, ap, subst, arith, length, set, ◌⊎◌, inl, inr, cond}
use Rattle.std.specs.Prelude.{pos, neg_ℤ, ℤ}
use Rattle.std.proofs.lemmas.Int.{ints}
use Rattle.std.proofs.Math.Decide.{ℕ_discrete}
use Rattle.std.proofs.lemmas.List.{get_or-set_same, length-set}
use Rattle.std.proofs.lemmas.Bool.{eq-eqb}
use Rattle.rational.specs.Rational.{Rational, ◌*ℚ◌, ◌-ℚ◌, neg_ℚ, inv_ℚ, zero_ℚ, one_ℚ}
use Rattle.milp.specs.Form.{Entry}
use Rattle.rational.proofs.Laws as Q
use Rattle.basis.specs.System.{System, IsSystem}
use Rattle.basis.specs.Dictionary.{place_of, IsBasic, IsResting, AllResting, Dictionary, IsDictionary, rate_of, RestsAt, IsBasicPoint}
use Rattle.basis.specs.Bland.{exchanged, HasPassed, CanRaise, CanMend, IsDirection, Reaches, MendStep, ImproveStep, BlandStep, IsRun, start_dictionary, start_point}
use Rattle.basis.specs.declared.Place.{Place}
use Rattle.basis.specs.declared.Place.TheVariants.{Basic, AtLower, AtUpper, AtZero}
use Rattle.basis.proofs.Places.{length-exchanged, other_place, basic_known, is_basic_or}
use Rattle.basis.proofs.Unique.{moved_alone, moved-resting, moved-basic}
use Rattle.basis.proofs.Exists.{pivoted, pivoted_is, other_test}
use Rattle.basis.proofs.Points.{after, point_after}
use Rattle.basis.proofs.Rays.{arrives}
use Rattle.basis.proofs.Order.{above_some, below_some, zero_numerator}
use Rattle.basis.proofs.Start.{start_is_dictionary, start_is_point}

push_some : (s : System) (x : ℕ → Rational) (q : ℕ) (a : Rational) → CanRaise s x q a → ¬ (a.numerator ≡ pos 0)
push_some s x q a (inl h) = above_some a h.0
push_some s x q a (inr h) = below_some a h.0

neg_back : (a : Rational) → ¬ ((neg_ℚ a).numerator ≡ pos 0) → ¬ (a.numerator ≡ pos 0)
unfolding neg_ℚ
neg_back a h e = h (parts a.numerator e)
  where
    parts : (n : ℤ) → n ≡ pos 0 → neg_ℤ n ≡ pos 0
    parts n e = omega (arith, ints)

mend_some : (s : System) (x : ℕ → Rational) (p : Place) (q : ℕ) (rate : Rational) → CanMend s x p q rate → ¬ (rate.numerator ≡ pos 0)
mend_some s x Basic q rate h = absurd h
mend_some s x AtLower q rate h = push_some s x q _ h
mend_some s x AtUpper q rate h = neg_back _ (push_some s x q _ h)
mend_some s x AtZero q rate h = absurd h

passed_stops : (s : System) (x : ℕ → Rational) (v : ℕ) (p : Place) → HasPassed s x v p → p ≢ Basic
passed_stops s x v Basic h e = h
passed_stops s x v AtLower h e = cc
passed_stops s x v AtUpper h e = cc
passed_stops s x v AtZero h e = cc

reaches_stops : (s : System) (x r : ℕ → Rational) (t : Rational) (v : ℕ) (p : Place) → Reaches s x r t v p → p ≢ Basic
reaches_stops s x r t v Basic h e = h
reaches_stops s x r t v AtLower h e = cc
reaches_stops s x r t v AtUpper h e = cc
reaches_stops s x r t v AtZero h e = cc

-- ---- the direction of a mover

one_direction : (s : System) (b : List Place) (d : Dictionary) (q : ℕ) → IsResting b q → IsDirection b d q one_ℚ (moved_alone b d q one_ℚ)
one_direction s b d q h = record {
  mover = moved-resting b d q one_ℚ q h ∙ ap (λ u. cond u one_ℚ zero_ℚ) (eq-eqb q q refl);
  others = λ v k n. moved-resting b d q one_ℚ v k ∙ ap (λ u. cond u one_ℚ zero_ℚ) (other_test v q n);
  basics = λ v k. moved-basic b d q one_ℚ v k;
}

-- ---- steps

pub record HasAll (s : System) (b : List Place) : Type 0 where
  pub dictionary : Dictionary
  pub is_dictionary : IsDictionary s b dictionary
  pub point : ℕ → Rational
  pub is_point : IsBasicPoint s b point

passed_bound : (s : System) (x : ℕ → Rational) (v : ℕ) (p : Place) → HasPassed s x v p → (y : Rational) × RestsAt s p v y
passed_bound s x v Basic h = absurd h
passed_bound s x v AtLower h = (h.0, h.1)
passed_bound s x v AtUpper h = (h.0, h.1)
passed_bound s x v AtZero h = absurd h

pub mend_has : (s : System) (b : List Place) (x : ℕ → Rational) (d : Dictionary) (q v : ℕ) (p : Place) → IsDictionary s b d → IsBasicPoint s b x → MendStep s b x d q v p → HasAll s (exchanged b q v p)
mend_has s b x d q v p h k m =
    let outside = m.first_outside.holds in
    let mends = m.first_mending.holds in
    let some : ¬ ((rate_of d q v).numerator ≡ pos 0) = mend_some s x p q (rate_of d q v) (mends.can_mend) in
    let r : ℕ → Rational = moved_alone b d q one_ℚ in
    let y = passed_bound s x v p m.passed in
    let rate : moved_alone b d q one_ℚ v ≡ rate_of d q v = moved-basic b d q one_ℚ v (outside.basic) ∙ Q.one-mul _ in
    let some_r : ¬ ((moved_alone b d q one_ℚ v).numerator ≡ pos 0) = λ e. some (ap (λ (u : Rational). u.numerator) (sym rate) ∙ e) in
    let R : Rational → Type 0 = λ u. RestsAt s p v u in
    record {
      dictionary = pivoted d q v;
      is_dictionary = pivoted_is s b d q v p h (outside.basic) (mends.resting) (passed_stops s x v p m.passed) some;
      point = after x ((y.0 -ℚ x v) *ℚ inv_ℚ (moved_alone b d q one_ℚ v)) r;
      is_point = point_after s b d x q v p one_ℚ _ r h k (one_direction s b d q (mends.resting)) (mends.resting.known) (basic_known b v (outside.basic))
          (subst R (arrives (x v) (moved_alone b d q one_ℚ v) y.0 some_r) y.1);
    }

-- ---- a mover that comes to its own other bound

module _ (b : List Place) (q : ℕ) (p : Place) (enters : IsResting b q) (stops : p ≢ Basic) where
  at_mover : place_of (exchanged b q q p) q ≡ p
  at_mover = get_or-set_same (set b q Basic) q p AtZero (rw (length-set b q Basic) (enters.known))

  basic_back : (v : ℕ) → IsBasic (exchanged b q q p) v → IsBasic b v
  basic_back v j = elim (ℕ_discrete v q) [
    | yes same ↦ absurd (stops (sym at_mover ∙ (let P : ℕ → Type 0 = λ u. IsBasic (exchanged b q q p) u in subst P same j)))
    | no n ↦ sym (other_place b q q p v n n) ∙ j
  ]

  basic_on : (v : ℕ) → IsBasic b v → IsBasic (exchanged b q q p) v
  basic_on v j = elim (ℕ_discrete v q) [
    | yes same ↦ absurd (enters.not_basic (let P : ℕ → Type 0 = λ u. IsBasic b u in subst P same j))
    | no n ↦ other_place b q q p v n n ∙ j
  ]

  rests_on : (f : List Entry) → AllResting b f → AllResting (exchanged b q q p) f
  rests_on [] h = tt
  rests_on (e ∷ f) h = (record { known = rw (length-exchanged b q q p) (h.0.known); not_basic = λ w. h.0.not_basic (basic_back e.column w) }, rests_on f h.1)

  pub flip_keeps : (s : System) (d : Dictionary) → IsDictionary s b d → IsDictionary s (exchanged b q q p) d
  flip_keeps s d h = record {
    size = length-exchanged b q q p ∙ h.size;
    over_resting = record { rows = λ v j. rests_on (d.row v) (h.over_resting.rows v (basic_back v j)); objective = rests_on d.objective h.over_resting.objective };
    same_points = λ x. (λ k. record { values = λ v j. ((h.same_points x).0 k).values v (basic_back v j) }, λ k. (h.same_points x).1 (record { values = λ v j. k.values v (basic_on v j) }));
    same_objective = h.same_objective;
  }

-- ---- steps of the second phase

reached : (s : System) (x r : ℕ → Rational) (t : Rational) (v : ℕ) (p : Place) → Reaches s x r t v p → RestsAt s p v (after x t r v) × (r v ≢ zero_ℚ)
reached s x r t v Basic h = absurd h
reached s x r t v AtLower h = (h.1, λ e. below_some (r v) h.0 (ap (λ (u : Rational). u.numerator) e))
reached s x r t v AtUpper h = (h.1, λ e. above_some (r v) h.0 (ap (λ (u : Rational). u.numerator) e))
reached s x r t v AtZero h = absurd h

pub improve_has : (s : System) (b : List Place) (x : ℕ → Rational) (d : Dictionary) (q v : ℕ) (p : Place) → IsDictionary s b d → IsBasicPoint s b x → ImproveStep s b x d q v p → HasAll s (exchanged b q v p)
improve_has s b x d q v p h k m =
    let improves = m.first_improving.holds in
    let there = reached s x m.direction m.step v p m.reaches in
    let stops = reaches_stops s x m.direction m.step v p m.reaches in
    let inside : v < length b = rw h.size (m.known) in
    let point = point_after s b d x q v p m.heading m.step m.direction h k m.is_direction (improves.resting.known) inside there.0 in
    elim (ℕ_discrete v q) [
      | yes same ↦
          let P : ℕ → Type 0 = λ u. HasAll s (exchanged b q u p) in
          let R : ℕ → Type 0 = λ u. IsBasicPoint s (exchanged b q u p) (after x m.step m.direction) in
          subst P (sym same) (record { dictionary = d; is_dictionary = flip_keeps b q p (improves.resting) stops s d h; point = after x m.step m.direction; is_point = subst R same point })
      | no n ↦ elim (is_basic_or b v inside) [
        | inl basic ↦
            let some : ¬ ((rate_of d q v).numerator ≡ pos 0) = λ e. there.1 (m.is_direction.basics v basic ∙ ap (λ u. m.heading *ℚ u) (zero_numerator _ e) ∙ Q.mul-zero _) in
            record { dictionary = pivoted d q v; is_dictionary = pivoted_is s b d q v p h basic (improves.resting) stops some; point = after x m.step m.direction; is_point = point }
        | inr rests ↦ absurd (there.1 (m.is_direction.others v rests n))
      ]
    ]

pub step_has : (s : System) (b c : List Place) → BlandStep s b c → HasAll s c
step_has s b c h =
    let P : List Place → Type 0 = HasAll s in
    subst P (sym h.exchange) (elim h.chosen [
      | inl m ↦ mend_has s b h.point h.dictionary h.enters h.leaves h.place h.is_dictionary h.is_point m
      | inr m ↦ improve_has s b h.point h.dictionary h.enters h.leaves h.place h.is_dictionary h.is_point m
    ])

pub run_has : (s : System) (b : List Place) (before : List (List Place)) → IsSystem s → IsRun s b before → HasAll s b
run_has s b [] h k = record { dictionary = start_dictionary s; is_dictionary = start_is_dictionary s b h k; point = start_point s; is_point = start_is_point s b h k }
run_has s b (c ∷ cs) h k = step_has s c b k.0

-- ---- what a step exchanges

pub mend_exchanges : (s : System) (b : List Place) (x : ℕ → Rational) (d : Dictionary) (q v : ℕ) (p : Place) → MendStep s b x d q v p → (p ≢ Basic) × IsBasic b v × IsResting b q × (¬ ((rate_of d q v).numerator ≡ pos 0))
mend_exchanges s b x d q v p m = (passed_stops s x v p m.passed, m.first_outside.holds.basic, m.first_mending.holds.resting, mend_some s x p q (rate_of d q v) (m.first_mending.holds.can_mend))

pub improve_exchanges : (s : System) (b : List Place) (x : ℕ → Rational) (d : Dictionary) (q v : ℕ) (p : Place) → IsDictionary s b d → ImproveStep s b x d q v p
    → (p ≢ Basic) × IsResting b q × ((v ≡ q) ⊎ (IsBasic b v × (¬ ((rate_of d q v).numerator ≡ pos 0))))
improve_exchanges s b x d q v p h m = (reaches_stops s x m.direction m.step v p m.reaches, m.first_improving.holds.resting, which)
  where
    there : v < length b
    there = rw h.size (m.known)

    moves : m.direction v ≢ zero_ℚ
    moves = (reached s x m.direction m.step v p m.reaches).1

    which : (v ≡ q) ⊎ (IsBasic b v × (¬ ((rate_of d q v).numerator ≡ pos 0)))
    which = elim (ℕ_discrete v q) [
      | yes same ↦ inl same
      | no n ↦ elim (is_basic_or b v there) [
        | inl basic ↦ inr (basic, λ e. moves (m.is_direction.basics v basic ∙ ap (λ u. m.heading *ℚ u) (zero_numerator _ e) ∙ Q.mul-zero _))
        | inr rests ↦ absurd (moves (m.is_direction.others v rests n))
      ]
    ]
