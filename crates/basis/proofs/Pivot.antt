-- A pivot keeps the points at which the equations hold.
use Rattle.std.proofs.Common.{◌≡◌, ◌∙◌, ℕ, List, ◌<◌, ◌≢◌, refl, sym, ap, subst, length, inl, inr}
use Rattle.std.specs.Prelude.{pos}
use Rattle.std.proofs.Math.Decide.{ℕ_discrete}
use Rattle.rational.specs.Rational.{Rational, ◌+ℚ◌, ◌*ℚ◌, ◌-ℚ◌, ◌/ℚ◌, neg_ℚ, inv_ℚ, zero_ℚ, one_ℚ}
use Rattle.milp.specs.Form.{Entry, value_at}
use Rattle.verdicts.specs.WeightedSums.{AllBelow, coefficient_of}
use mathlib.Core.Path.{ap₂}
use Rattle.rational.proofs.Laws as Q
use Rattle.rational.proofs.Laws.{field, field_units, signs, inverses}
use Rattle.verdicts.proofs.Laws.{same_value, neg-zero}
use Rattle.basis.specs.System.{System, unit_form}
use Rattle.basis.specs.Dictionary.{IsBasic, IsResting, AllResting, IsOverResting, Dictionary, Solves, IsDictionary, rate_of}
use Rattle.basis.specs.Bland.{exchanged}
use Rattle.basis.specs.Dictionary.{gain_of}
use Rattle.basis.specs.Pivots.{IsPivoted}
use Rattle.basis.specs.declared.Place.{Place}
use Rattle.basis.specs.declared.Place.TheVariants.{Basic}
use Rattle.basis.proofs.Places.{length-exchanged, enters_basic, basic_after, stays_basic, basic_known, below, rests_or}
use Rattle.basis.proofs.Values.{SameForm, solved, substituted, value-solved, value-substituted, below-solved, below-substituted}
use Rattle.basis.proofs.Coefs.{coefficient-solved, coefficient-substituted, unit_self, unit_other, not_resting}

-- ---- equations between numbers

same_minus : (a b : Rational) → a ≡ b → a -ℚ b ≡ zero_ℚ
same_minus a b e = rw e (Q.add-neg b)

minus_same : (a b : Rational) → a -ℚ b ≡ zero_ℚ → a ≡ b
minus_same a b e = sym (simp (field, field_units, signs)) ∙ ap (λ t. t +ℚ b) e ∙ Q.zero-add b

-- x_q = x_q + (y - v) / c exactly where y = v
solved_holds : (x c y v : Rational) → y ≡ v → x ≡ x +ℚ inv_ℚ c *ℚ (y -ℚ v)
solved_holds x c y v e = sym (ap (λ t. x +ℚ inv_ℚ c *ℚ t) (same_minus y v e) ∙ simp field_units)

solved_back : (x c y v : Rational) → ¬ (c.numerator ≡ pos 0) → x ≡ x +ℚ inv_ℚ c *ℚ (y -ℚ v) → y ≡ v
solved_back x c y v h e =
    let z : inv_ℚ c *ℚ (y -ℚ v) ≡ zero_ℚ = Q.add_left_cancel x _ _ (sym e ∙ sym (Q.add-zero x)) in
    minus_same y v (sym (Q.inv_left c (y -ℚ v) h) ∙ ap (λ t. c *ℚ t) z ∙ Q.mul-zero c)

put_in : (a k g x : Rational) → x ≡ g → a +ℚ k *ℚ (g -ℚ x) ≡ a
put_in a k g x e = ap (λ t. a +ℚ k *ℚ t) (same_minus g x (sym e)) ∙ simp field_units

-- ---- e has the values of d after q became basic in the place of r

pub record HasPivotedValues (b : List Place) (d e : Dictionary) (q r : ℕ) : Type 0 where
  pub entering : (x : ℕ → Rational) → value_at x (e.row q) ≡ value_at x (solved q r (rate_of d q r) (d.row r))
  pub others : (v : ℕ) → IsBasic b v → v ≢ r → (x : ℕ → Rational) → value_at x (e.row v) ≡ value_at x (substituted q (rate_of d q v) (e.row q) (d.row v))
  pub objective : (x : ℕ → Rational) → value_at x e.objective ≡ value_at x (substituted q (gain_of d q) (e.row q) d.objective)

module _ (s : System) (b : List Place) (d e : Dictionary) (q r : ℕ) (place : Place)
    (is_dictionary : IsDictionary s b d) (leaves : IsBasic b r) (enters : IsResting b q) (stops : place ≢ Basic)
    (some_rate : ¬ ((rate_of d q r).numerator ≡ pos 0))
    (pivoted : HasPivotedValues b d e q r) (resting : IsOverResting (exchanged b q r place) e) where
  apart : q ≢ r
  apart h = let P : ℕ → Type 0 = IsBasic b in enters.not_basic (subst P (sym h) leaves)

  known : r < length b
  known = basic_known b r leaves

  entered : IsBasic (exchanged b q r place) q
  entered = enters_basic b q r place enters.known apart

  entering_value : (x : ℕ → Rational) → value_at x (e.row q) ≡ x q +ℚ inv_ℚ (rate_of d q r) *ℚ (x r -ℚ value_at x (d.row r))
  entering_value x = pivoted.entering x ∙ value-solved x q r (rate_of d q r) (d.row r)

  other_value : (x : ℕ → Rational) (v : ℕ) → IsBasic b v → v ≢ r → v ≢ q → value_at x (e.row v) ≡ value_at x (d.row v) +ℚ rate_of d q v *ℚ (value_at x (e.row q) -ℚ x q)
  other_value x v j n m = pivoted.others v j n x ∙ value-substituted x q (rate_of d q v) (e.row q) (d.row v)

  objective_value : (x : ℕ → Rational) → value_at x e.objective ≡ value_at x d.objective +ℚ gain_of d q *ℚ (value_at x (e.row q) -ℚ x q)
  objective_value x = pivoted.objective x ∙ value-substituted x q (gain_of d q) (e.row q) d.objective

  solves_on : (x : ℕ → Rational) → Solves b d x → Solves (exchanged b q r place) e x
  solves_on x h = record { values = go }
    where
      at_q : x q ≡ value_at x (e.row q)
      at_q = solved_holds (x q) (rate_of d q r) (x r) (value_at x (d.row r)) (h.values r leaves) ∙ sym (entering_value x)

      go : (v : ℕ) → IsBasic (exchanged b q r place) v → x v ≡ value_at x (e.row v)
      go v j = elim (ℕ_discrete v q) [
        | yes same ↦ let P : ℕ → Type 0 = λ u. x u ≡ value_at x (e.row u) in subst P (sym same) at_q
        | no m ↦ let old = basic_after b q r place v known stops j m in h.values v old.0 ∙ sym (other_value x v old.0 old.1 m ∙ put_in _ _ _ _ at_q)
      ]

  solves_back : (x : ℕ → Rational) → Solves (exchanged b q r place) e x → Solves b d x
  solves_back x h = record { values = go }
    where
      at_r : x r ≡ value_at x (d.row r)
      at_r = solved_back (x q) (rate_of d q r) (x r) (value_at x (d.row r)) some_rate (h.values q entered ∙ entering_value x)

      go : (v : ℕ) → IsBasic b v → x v ≡ value_at x (d.row v)
      go v j = elim (ℕ_discrete v r) [
        | yes same ↦ let P : ℕ → Type 0 = λ u. x u ≡ value_at x (d.row u) in subst P (sym same) at_r
        | no n ↦ let m : v ≢ q = λ w. (let P : ℕ → Type 0 = IsBasic b in enters.not_basic (subst P w j)) in
            h.values v (stays_basic b q r place v j m n) ∙ other_value x v j n m ∙ put_in _ _ _ _ (h.values q entered)
      ]

  pub values_keep : IsDictionary s (exchanged b q r place) e
  values_keep = record {
    size = length-exchanged b q r place ∙ is_dictionary.size;
    over_resting = resting;
    same_points = λ x. (λ h. solves_on x ((is_dictionary.same_points x).0 h), λ h. (is_dictionary.same_points x).1 (solves_back x h));
    same_objective = λ x h. is_dictionary.same_objective x h ∙ sym (objective_value x ∙ put_in _ _ _ _ ((solves_on x ((is_dictionary.same_points x).0 h)).values q entered));
  }

-- ---- the same by coefficients

nothing_left : (k : Rational) → zero_ℚ +ℚ k *ℚ (zero_ℚ -ℚ zero_ℚ) ≡ zero_ℚ
nothing_left k = ap (λ t. zero_ℚ +ℚ k *ℚ t) (Q.add-neg zero_ℚ) ∙ simp field_units

less_zero : (a b c : Rational) → a +ℚ b *ℚ (c -ℚ zero_ℚ) ≡ a +ℚ b *ℚ c
less_zero a b c = ap (λ t. a +ℚ b *ℚ t) (ap (λ t. c +ℚ t) neg-zero ∙ Q.add-zero c)

only_product : (b c : Rational) → zero_ℚ +ℚ b *ℚ (c -ℚ zero_ℚ) ≡ b *ℚ c
only_product b c = less_zero zero_ℚ b c ∙ Q.zero-add (b *ℚ c)

minus_quotient : (i f : Rational) → zero_ℚ +ℚ i *ℚ (zero_ℚ -ℚ f) ≡ neg_ℚ (f *ℚ i)
minus_quotient i f = simp (field, field_units, signs)

gone : (k : Rational) → k +ℚ k *ℚ (zero_ℚ -ℚ one_ℚ) ≡ zero_ℚ
gone k = simp (field, field_units, signs)

solved_out : (c : Rational) → ¬ (c.numerator ≡ pos 0) → one_ℚ +ℚ inv_ℚ c *ℚ (zero_ℚ -ℚ c) ≡ zero_ℚ
solved_out c n = ap (λ t. one_ℚ +ℚ t) (ap (λ t. inv_ℚ c *ℚ t) (Q.zero-add (neg_ℚ c)) ∙ Q.mul_neg (inv_ℚ c) c ∙ ap neg_ℚ (Q.mul_comm (inv_ℚ c) c ∙ Q.mul-inv c n)) ∙ Q.add-neg one_ℚ

module _ (s : System) (b : List Place) (d e : Dictionary) (q r : ℕ) (place : Place)
    (is_dictionary : IsDictionary s b d) (leaves : IsBasic b r) (enters : IsResting b q) (stops : place ≢ Basic)
    (some_rate : ¬ ((rate_of d q r).numerator ≡ pos 0))
    (pivoted : IsPivoted b d e q r) (resting : IsOverResting (exchanged b q r place) e) where
  not_same : q ≢ r
  not_same h = let P : ℕ → Type 0 = IsBasic b in enters.not_basic (subst P (sym h) leaves)

  now_basic : IsBasic (exchanged b q r place) q
  now_basic = enters_basic b q r place enters.known not_same

  r_not_resting : ¬ (IsResting b r)
  r_not_resting h = h.not_basic leaves

  q_not_resting : ¬ (IsResting (exchanged b q r place) q)
  q_not_resting h = h.not_basic now_basic

  rested_before : (j : ℕ) → j ≢ r → j ≢ q → IsResting (exchanged b q r place) j → IsResting b j
  rested_before j n m h = record { known = rw (← length-exchanged b q r place) h.known; not_basic = λ w. h.not_basic (stays_basic b q r place j w m n) }

  -- f has the coefficients of g at r, at q, at each other variable that rested, and at the rest
  by_variable : (f g : List Entry) → coefficient_of f r ≡ coefficient_of g r → coefficient_of f q ≡ coefficient_of g q
      → ((j : ℕ) → j ≢ r → j ≢ q → IsResting b j → coefficient_of f j ≡ coefficient_of g j)
      → ((j : ℕ) → j ≢ r → j ≢ q → ¬ (IsResting b j) → coefficient_of f j ≡ coefficient_of g j) → SameForm f g
  by_variable f g at_r at_q at_rest elsewhere j = elim (ℕ_discrete j r) [
    | yes same ↦ let P : ℕ → Type 0 = λ i. coefficient_of f i ≡ coefficient_of g i in subst P (sym same) at_r
    | no n ↦ elim (ℕ_discrete j q) [
      | yes same ↦ let P : ℕ → Type 0 = λ i. coefficient_of f i ≡ coefficient_of g i in subst P (sym same) at_q
      | no m ↦ elim (rests_or b j) [
        | inl rests ↦ at_rest j n m rests
        | inr not ↦ elsewhere j n m not
      ]
    ]
  ]

  -- a coefficient of the solved row, from those of the units and of the old row
  solved_at : (j : ℕ) (u v w : Rational) → coefficient_of (unit_form q) j ≡ u → coefficient_of (unit_form r) j ≡ v → coefficient_of (d.row r) j ≡ w
      → coefficient_of (solved q r (rate_of d q r) (d.row r)) j ≡ u +ℚ inv_ℚ (rate_of d q r) *ℚ (v -ℚ w)
  solved_at j u v w k l m = coefficient-solved q r (rate_of d q r) (d.row r) j ∙ ap₂ (λ x y. x +ℚ inv_ℚ (rate_of d q r) *ℚ y) k (ap₂ ◌-ℚ◌ l m)

  entering_same : SameForm (e.row q) (solved q r (rate_of d q r) (d.row r))
  entering_same = by_variable (e.row q) (solved q r (rate_of d q r) (d.row r))
      (pivoted.corner ∙ sym (solved_at r zero_ℚ one_ℚ zero_ℚ (unit_other q r (λ w. not_same (sym w))) (unit_self r) (not_resting b (d.row r) r (is_dictionary.over_resting.rows r leaves) r_not_resting) ∙ only_product _ one_ℚ ∙ Q.mul-one _))
      (not_resting (exchanged b q r place) (e.row q) q (resting.rows q now_basic) q_not_resting
      ∙ sym (solved_at q one_ℚ zero_ℚ (rate_of d q r) (unit_self q) (unit_other r q not_same) refl ∙ solved_out (rate_of d q r) some_rate))
      (λ j n m rests. pivoted.entering_row j rests m ∙ sym (solved_at j zero_ℚ zero_ℚ (rate_of d j r) (unit_other q j m) (unit_other r j n) refl ∙ minus_quotient _ _))
      (λ j n m not. not_resting (exchanged b q r place) (e.row q) j (resting.rows q now_basic) (λ h. not (rested_before j n m h))
      ∙ sym (solved_at j zero_ℚ zero_ℚ zero_ℚ (unit_other q j m) (unit_other r j n) (not_resting b (d.row r) j (is_dictionary.over_resting.rows r leaves) not) ∙ nothing_left _))

  substituted_at : (f : List Entry) (k : Rational) (j : ℕ) (u v w : Rational) → coefficient_of f j ≡ u → coefficient_of (e.row q) j ≡ v → coefficient_of (unit_form q) j ≡ w
      → coefficient_of (substituted q k (e.row q) f) j ≡ u +ℚ k *ℚ (v -ℚ w)
  substituted_at f k j u v w l m n = coefficient-substituted q k (e.row q) f j ∙ ap₂ (λ x y. x +ℚ k *ℚ y) l (ap₂ ◌-ℚ◌ m n)

  -- a form over resting variables with the entering row put in
  substituted_same : (f h : List Entry) → AllResting b f → AllResting (exchanged b q r place) h
      → coefficient_of h r ≡ coefficient_of f q /ℚ rate_of d q r → ((j : ℕ) → IsResting b j → j ≢ q → coefficient_of h j ≡ coefficient_of f j +ℚ coefficient_of f q *ℚ rate_of e j q)
      → SameForm h (substituted q (coefficient_of f q) (e.row q) f)
  substituted_same f h before now at_r at_rest = by_variable h (substituted q (coefficient_of f q) (e.row q) f)
      (at_r ∙ sym (substituted_at f _ r zero_ℚ (inv_ℚ (rate_of d q r)) zero_ℚ (not_resting b f r before r_not_resting) pivoted.corner (unit_other q r (λ w. not_same (sym w))) ∙ only_product _ _))
      (not_resting (exchanged b q r place) h q now q_not_resting
      ∙ sym (substituted_at f _ q (coefficient_of f q) zero_ℚ one_ℚ refl (not_resting (exchanged b q r place) (e.row q) q (resting.rows q now_basic) q_not_resting) (unit_self q) ∙ gone _))
      (λ j n m rests. at_rest j rests m ∙ sym (substituted_at f _ j (coefficient_of f j) (rate_of e j q) zero_ℚ refl refl (unit_other q j m) ∙ less_zero _ _ _))
      (λ j n m not. not_resting (exchanged b q r place) h j now (λ w. not (rested_before j n m w))
      ∙ sym (substituted_at f _ j zero_ℚ zero_ℚ zero_ℚ (not_resting b f j before not) (not_resting (exchanged b q r place) (e.row q) j (resting.rows q now_basic) (λ w. not (rested_before j n m w))) (unit_other q j m) ∙ nothing_left _))

  old_below : (v : ℕ) → IsBasic b v → AllBelow (length b) (d.row v)
  old_below v j = below b (length b) (d.row v) refl (is_dictionary.over_resting.rows v j)

  new_below : (v : ℕ) → IsBasic (exchanged b q r place) v → AllBelow (length b) (e.row v)
  new_below v j = below (exchanged b q r place) (length b) (e.row v) (length-exchanged b q r place) (resting.rows v j)

  by_values : HasPivotedValues b d e q r
  by_values = record {
    entering = λ x. same_value (length b) x (e.row q) (solved q r (rate_of d q r) (d.row r)) (new_below q now_basic) (below-solved (length b) q r _ (d.row r) enters.known (basic_known b r leaves) (old_below r leaves)) entering_same;
    others = λ v j n x. (let m : v ≢ q = λ w. (let P : ℕ → Type 0 = IsBasic b in enters.not_basic (subst P w j)) in
        let still = stays_basic b q r place v j m n in
        same_value (length b) x (e.row v) (substituted q (rate_of d q v) (e.row q) (d.row v)) (new_below v still) (below-substituted (length b) q _ (e.row q) (d.row v) enters.known (new_below q now_basic) (old_below v j))
        (substituted_same (d.row v) (e.row v) (is_dictionary.over_resting.rows v j) (resting.rows v still) (pivoted.leaving_column v j n) (λ i. pivoted.others v i j n)));
    objective = λ x. same_value (length b) x e.objective (substituted q (gain_of d q) (e.row q) d.objective) (below (exchanged b q r place) (length b) e.objective (length-exchanged b q r place) resting.objective)
        (below-substituted (length b) q _ (e.row q) d.objective enters.known (new_below q now_basic) (below b (length b) d.objective refl is_dictionary.over_resting.objective))
        (substituted_same d.objective e.objective is_dictionary.over_resting.objective resting.objective pivoted.leaving_gain pivoted.other_gains);
  }

  pub pivot_keeps : IsDictionary s (exchanged b q r place) e
  pivot_keeps = values_keep s b d e q r place is_dictionary leaves enters stops some_rate by_values resting
