-- The basis after a pivot has a dictionary.
use Rattle.std.proofs.Common.{◌≡◌, ◌∙◌, ℕ, List, [], ◌∷◌, ◌++◌, ◌<◌, ◌≢◌, refl, sym, ap, subst, arith, ◌==◌, cond, false, length}
use Rattle.std.specs.Prelude.{pos}
use Rattle.std.proofs.lemmas.Bool.Decides.{nat_tests}
use mathlib.Core.Path.{ap₂}
use Rattle.std.proofs.Math.Decide.{ℕ_discrete}
use Rattle.std.proofs.lemmas.Bool.{eq-eqb}
use Rattle.rational.specs.Rational.{Rational, ◌+ℚ◌, ◌*ℚ◌, ◌/ℚ◌, neg_ℚ, inv_ℚ, zero_ℚ}
use Rattle.milp.specs.Form.{Entry}
use Rattle.verdicts.specs.WeightedSums.{scaled, coefficient_of}
use Rattle.rational.proofs.Laws as Q
use Rattle.basis.specs.System.{System}
use Rattle.basis.specs.Dictionary.{IsBasic, IsResting, AllResting, IsOverResting, Dictionary, IsDictionary, rate_of, gain_of}
use Rattle.basis.specs.Bland.{exchanged}
use Rattle.basis.specs.Pivots.{IsPivoted}
use Rattle.basis.specs.declared.Place.{Place}
use Rattle.basis.specs.declared.Place.TheVariants.{Basic}
use Rattle.basis.proofs.Places.{length-exchanged, leaves_rests, basic_after, basic_known, other_place}
use Rattle.verdicts.proofs.Laws.{coefficient-append, coefficient-scaled}
use Rattle.basis.proofs.Coefs.{not_resting}
use Rattle.basis.proofs.Pivot.{pivot_keeps}

-- ---- forms

abbrev pub without : ℕ → List Entry → List Entry
without q [] = []
without q (e ∷ f) = cond (e.column == q) (without q f) (e ∷ without q f)

-- the form f for r, of which c is the coefficient of q, solved for q
abbrev pub entering_row : ℕ → ℕ → Rational → List Entry → List Entry
entering_row q r c f = record { column = r; coefficient = inv_ℚ c } ∷ scaled (neg_ℚ (inv_ℚ c)) (without q f)

-- the form f with the form g put in for q, of which it has k
abbrev pub with_row : ℕ → Rational → List Entry → List Entry → List Entry
with_row q k g f = without q f ++ scaled k g

abbrev pub pivoted : Dictionary → ℕ → ℕ → Dictionary
pivoted d q r = record {
  row = λ v. cond (v == q) (entering_row q r (rate_of d q r) (d.row r)) (with_row q (rate_of d q v) (entering_row q r (rate_of d q r) (d.row r)) (d.row v));
  objective = with_row q (gain_of d q) (entering_row q r (rate_of d q r) (d.row r)) d.objective;
}

pub other_test : (i j : ℕ) → i ≢ j → (i == j) ≡ false
other_test i j h = grind (arith, nat_tests)

without-self : (q : ℕ) (f : List Entry) → coefficient_of (without q f) q ≡ zero_ℚ
without-self q [] = refl
without-self q (e ∷ f) = elim (ℕ_discrete e.column q) [
  | yes h ↦ rw (eq-eqb e.column q h) (without-self q f)
  | no n ↦ rw (other_test e.column q n, other_test e.column q n) (Q.zero-add _ ∙ without-self q f)
]

without-other : (q j : ℕ) (f : List Entry) → j ≢ q → coefficient_of (without q f) j ≡ coefficient_of f j
without-other q j [] h = refl
without-other q j (e ∷ f) h = elim (ℕ_discrete e.column q) [
  | yes same ↦ let apart : e.column ≢ j = λ w. h (sym w ∙ same) in rw (eq-eqb e.column q same, other_test e.column j apart) (without-other q j f h ∙ sym (Q.zero-add _))
  | no n ↦ rw (other_test e.column q n) (ap (λ t. cond (e.column == j) e.coefficient zero_ℚ +ℚ t) (without-other q j f h))
]

-- ---- coefficients

entering_corner : (q r : ℕ) (c : Rational) (f : List Entry) → q ≢ r → coefficient_of f r ≡ zero_ℚ → coefficient_of (entering_row q r c f) r ≡ inv_ℚ c
entering_corner q r c f h z =
    rw (eq-eqb r r refl) (ap (λ t. inv_ℚ c +ℚ t) (coefficient-scaled (neg_ℚ (inv_ℚ c)) (without q f) r ∙ ap (λ t. neg_ℚ (inv_ℚ c) *ℚ t) (without-other q r f (λ w. h (sym w)) ∙ z) ∙ Q.mul-zero _) ∙ Q.add-zero _)

entering_other : (q r : ℕ) (c : Rational) (f : List Entry) (j : ℕ) → j ≢ q → j ≢ r → coefficient_of (entering_row q r c f) j ≡ neg_ℚ (coefficient_of f j /ℚ c)
entering_other q r c f j h k =
    rw (other_test r j (λ w. k (sym w))) (Q.zero-add _ ∙ coefficient-scaled (neg_ℚ (inv_ℚ c)) (without q f) j ∙ ap (λ t. neg_ℚ (inv_ℚ c) *ℚ t) (without-other q j f h) ∙ Q.neg_mul _ _ ∙ ap neg_ℚ (Q.mul_comm _ _))

with_other : (q : ℕ) (k : Rational) (g f : List Entry) (j : ℕ) → j ≢ q → coefficient_of (with_row q k g f) j ≡ coefficient_of f j +ℚ k *ℚ coefficient_of g j
with_other q k g f j h = coefficient-append (without q f) (scaled k g) j ∙ ap₂ ◌+ℚ◌ (without-other q j f h) (coefficient-scaled k g j)

with_leaving : (q r : ℕ) (k i : Rational) (g f : List Entry) → r ≢ q → coefficient_of f r ≡ zero_ℚ → coefficient_of g r ≡ i → coefficient_of (with_row q k g f) r ≡ k *ℚ i
with_leaving q r k i g f h z e = with_other q k g f r h ∙ ap₂ (λ a b. a +ℚ k *ℚ b) z e ∙ Q.zero-add _

-- ---- variables that rest

without_rests : (b : List Place) (q r : ℕ) (p : Place) (f : List Entry) → r < length b → p ≢ Basic → AllResting b f → AllResting (exchanged b q r p) (without q f)
without_rests b q r p [] k h a = tt
without_rests b q r p (e ∷ f) k h a = elim (ℕ_discrete e.column q) [
  | yes same ↦ rw (eq-eqb e.column q same) (without_rests b q r p f k h a.1)
  | no n ↦ rw (other_test e.column q n) (stays e.column n a.0, without_rests b q r p f k h a.1)
]
  where
    stays : (v : ℕ) → v ≢ q → IsResting b v → IsResting (exchanged b q r p) v
    stays v n l = elim (ℕ_discrete v r) [
      | yes same ↦ subst (IsResting (exchanged b q r p)) (sym same) (leaves_rests b q r p k h)
      | no m ↦ record { known = rw (length-exchanged b q r p) (l.known); not_basic = λ w. l.not_basic (sym (other_place b q r p v n m) ∙ w) }
    ]

append_rests : (b : List Place) (f g : List Entry) → AllResting b f → AllResting b g → AllResting b (f ++ g)
append_rests b [] g h k = k
append_rests b (e ∷ f) g h k = (h.0, append_rests b f g h.1 k)

scaled_rests : (b : List Place) (w : Rational) (f : List Entry) → AllResting b f → AllResting b (scaled w f)
scaled_rests b w [] h = tt
scaled_rests b w (e ∷ f) h = (h.0, scaled_rests b w f h.1)

-- ---- the new dictionary

module _ (s : System) (b : List Place) (d : Dictionary) (q r : ℕ) (place : Place)
    (is_dictionary : IsDictionary s b d) (leaves : IsBasic b r) (enters : IsResting b q) (stops : place ≢ Basic)
    (some_rate : ¬ ((rate_of d q r).numerator ≡ pos 0)) where
  apart : q ≢ r
  apart h = let P : ℕ → Type 0 = IsBasic b in enters.not_basic (subst P (sym h) leaves)

  apart_back : r ≢ q
  apart_back h = apart (sym h)

  known : r < length b
  known = basic_known b r leaves

  entering : List Entry
  entering = entering_row q r (rate_of d q r) (d.row r)

  at_entering : (pivoted d q r).row q ≡ entering
  unfolding entering
  at_entering = rw (eq-eqb q q refl) refl

  at_other : (v : ℕ) → v ≢ q → (pivoted d q r).row v ≡ with_row q (rate_of d q v) entering (d.row v)
  unfolding entering
  at_other v h = rw (other_test v q h) refl

  basic_apart : (v : ℕ) → IsBasic b v → v ≢ q
  basic_apart v j h = let P : ℕ → Type 0 = IsBasic b in enters.not_basic (subst P h j)

  rests_apart : (j : ℕ) → IsResting b j → j ≢ r
  rests_apart j h e = let P : ℕ → Type 0 = IsBasic b in h.not_basic (subst P (sym e) leaves)

  none_of_r : (f : List Entry) → AllResting b f → coefficient_of f r ≡ zero_ℚ
  none_of_r f h = not_resting b f r h (λ w. w.not_basic leaves)

  entering_rests : AllResting (exchanged b q r place) entering
  unfolding entering
  entering_rests = (leaves_rests b q r place known stops, scaled_rests _ _ _ (without_rests b q r place (d.row r) known stops (is_dictionary.over_resting.rows r leaves)))

  corner : coefficient_of entering r ≡ inv_ℚ (rate_of d q r)
  unfolding entering
  corner = entering_corner q r (rate_of d q r) (d.row r) apart (none_of_r (d.row r) (is_dictionary.over_resting.rows r leaves))

  beside : (j : ℕ) → IsResting b j → j ≢ q → coefficient_of entering j ≡ neg_ℚ (rate_of d j r /ℚ rate_of d q r)
  unfolding entering
  beside j h n = entering_other q r (rate_of d q r) (d.row r) j n (rests_apart j h)

  in_entering : (j : ℕ) → rate_of (pivoted d q r) j q ≡ coefficient_of entering j
  in_entering j = ap (λ f. coefficient_of f j) at_entering

  in_other : (v j : ℕ) → v ≢ q → rate_of (pivoted d q r) j v ≡ coefficient_of (with_row q (rate_of d q v) entering (d.row v)) j
  in_other v j n = ap (λ f. coefficient_of f j) (at_other v n)

  pub is_pivoted : IsPivoted b d (pivoted d q r) q r
  unfolding entering
  is_pivoted = record {
    corner = in_entering r ∙ corner;
    entering_row = λ j h n. in_entering j ∙ beside j h n;
    leaving_column = λ v j n. in_other v r (basic_apart v j) ∙ with_leaving q r _ _ entering (d.row v) apart_back (none_of_r (d.row v) (is_dictionary.over_resting.rows v j)) corner;
    others = λ v j k n h m. in_other v j (basic_apart v k) ∙ with_other q _ entering (d.row v) j m ∙ ap (λ t. rate_of d j v +ℚ rate_of d q v *ℚ t) (sym (in_entering j));
    leaving_gain = with_leaving q r _ _ entering d.objective apart_back (none_of_r d.objective is_dictionary.over_resting.objective) corner;
    other_gains = λ j h m. with_other q _ entering d.objective j m ∙ ap (λ t. gain_of d j +ℚ gain_of d q *ℚ t) (sym (in_entering j));
  }

  row_rests : (v : ℕ) → IsBasic (exchanged b q r place) v → AllResting (exchanged b q r place) ((pivoted d q r).row v)
  row_rests v j = elim (ℕ_discrete v q) [
    | yes same ↦ let P : ℕ → Type 0 = λ u. AllResting (exchanged b q r place) ((pivoted d q r).row u) in
        subst P (sym same) (subst (AllResting (exchanged b q r place)) (sym at_entering) entering_rests)
    | no n ↦ let old = basic_after b q r place v known stops j n in
        subst (AllResting (exchanged b q r place)) (sym (at_other v n))
        (append_rests _ (without q (d.row v)) _ (without_rests b q r place (d.row v) known stops (is_dictionary.over_resting.rows v old.0)) (scaled_rests _ _ entering entering_rests))
  ]

  pub is_over_resting : IsOverResting (exchanged b q r place) (pivoted d q r)
  unfolding entering
  is_over_resting = record {
    rows = row_rests;
    objective = append_rests _ (without q d.objective) _ (without_rests b q r place d.objective known stops is_dictionary.over_resting.objective) (scaled_rests _ _ entering entering_rests);
  }

  pub pivoted_is : IsDictionary s (exchanged b q r place) (pivoted d q r)
  pivoted_is = pivot_keeps s b d (pivoted d q r) q r place is_dictionary leaves enters stops some_rate is_pivoted is_over_resting
