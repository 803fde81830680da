-- The weights of a blocked row, and of contradictory bounds, show that the node has no point.
use Rattle.std.proofs.Common.{◌≡◌, ◌∙◌, ℕ, zero, suc, ◌<◌, ◌≢◌, List, [], ◌∷◌, ◌++◌, length, refl, sym, ap, subst, arith, Some, None, true, inl, inr, cond, ◌==◌, slice_get}
use Rattle.std.proofs.lemmas.Int.{ints}
use Rattle.std.specs.Prelude.{pos, negsuc, ◌*ℤ◌, ◌<ℤ◌, option_and_then, unwrap_or}
use Rattle.std.proofs.lemmas.Option.{slice_get_past}
use Rattle.std.proofs.Math.Decide.{ℕ_discrete, dec_lt}
use Rattle.std.proofs.lemmas.Bool.{and_from, eq-eqb}
use mathlib.Core.Path.{ap₂}
use Rattle.rational.specs.Rational.{Rational, ◌+ℚ◌, ◌-ℚ◌, ◌*ℚ◌, ◌<ℚ◌, zero_ℚ, one_ℚ, neg_ℚ, whole}
use Rattle.milp.specs.Form.{Entry, value_at}
use Rattle.milp.specs.Problem.{Problem}
use Rattle.verdicts.specs.Certificate.{Side, Weights, Derived}
use Rattle.verdicts.specs.WeightedSums.{combined, coefficient_of, sum_below, AllBelow}
use Rattle.verdicts.specs.Proves.{refutes, terms, bound_used}
use Rattle.verdicts.proofs.Laws.{coefficient-append, value-append, sum_zero, le_by, neg-zero, minus_one-mul}
use Rattle.rational.proofs.Laws as Q
use Rattle.rational.proofs.Laws.{field, field_units, signs}
use Rattle.basis.specs.System.{Bounds, size, lower_of, upper_of, Satisfies, AreBoundsInOrder, unit_form}
use Rattle.basis.specs.Dictionary.{IsBasic, IsResting, AllResting, Dictionary, IsDictionary, rate_of, IsBasicPoint}
use Rattle.basis.specs.Bland.{Mends}
use Rattle.basis.specs.Node.{system_of, IsOverColumns}
use Rattle.basis.specs.Weights.{weights_of, row_weight, row_weights, minus_row_weights, contradiction_weights, IsContradictory}
use Rattle.basis.specs.Relaxation.{IsBlocked, blocking_weights, IsInfeasibleRelaxation, contradiction, blocked, ShowsInfeasible}
use Rattle.basis.specs.declared.Place.{Place}
use Rattle.basis.specs.declared.Place.TheVariants.{Basic, AtLower, AtUpper, AtZero}
use Rattle.basis.proofs.Values.{minus, value-unit, value-minus, below-append, below-scaled}
use Rattle.basis.proofs.Coefs.{coefficient-minus, unit_self, unit_other, not_resting}
use Rattle.basis.proofs.Places.{below, rests_or, basic_known}
use Rattle.basis.proofs.Exists.{other_test}
use Rattle.basis.proofs.Order.{neg_above, not_le}
use Rattle.basis.proofs.Bounds.{resting_inside, held_up, held_down}
use Rattle.basis.proofs.Forms.{same_forms}
use Rattle.basis.proofs.FormWeights.{UsesBound, weights_there, weights_value, weights_bound}
use Rattle.basis.proofs.NodeWeights.{used, AreBoundsThere, list_sum, used_sum}
use Rattle.basis.proofs.NodeTerms.{all_terms, terms_are, terms_value, terms_bound, terms_below}
use Rattle.basis.proofs.NodeSystems.{is_system}

-- the form of the row of r: r minus its sum
abbrev pub row_form : Dictionary → ℕ → List Entry
row_form d r = unit_form r ++ minus (d.row r)

value-row : (y : ℕ → Rational) (d : Dictionary) (r : ℕ) → value_at y (row_form d r) ≡ y r -ℚ value_at y (d.row r)
value-row y d r = value-append y (unit_form r) (minus (d.row r)) ∙ ap₂ ◌+ℚ◌ (value-unit y r) (value-minus y (d.row r))

-- x with the number l at r
abbrev pub put_at : (ℕ → Rational) → ℕ → Rational → ℕ → Rational
put_at x r l v = cond (v == r) l (x v)

put-same : (x : ℕ → Rational) (r : ℕ) (l : Rational) → put_at x r l r ≡ l
put-same x r l = ap (λ t. cond t l (x r)) (eq-eqb r r refl)

put-other : (x : ℕ → Rational) (r : ℕ) (l : Rational) (v : ℕ) → v ≢ r → put_at x r l v ≡ x v
put-other x r l v n = ap (λ t. cond t l (x v)) (other_test v r n)

one_above : zero_ℚ <ℚ one_ℚ
one_above = record { cross = parts }
  where
    parts : (pos 0 *ℤ pos 1) <ℤ (pos 1 *ℤ pos 1)
    parts = omega (arith, ints)

difference_above : (a b : Rational) → b <ℚ a → zero_ℚ <ℚ a -ℚ b
difference_above a b h = not_le (a -ℚ b) zero_ℚ (λ k. Q.lt-not-le b a h (le_by a b _ _ (sym (back a b)) (sym (Q.zero-add b)) (Q.add-le-add _ _ b b k (Q.le_refl b))))
  where
    back : (a b : Rational) → (a -ℚ b) +ℚ b ≡ a
    back a b = simp (field, signs, field_units)

turned : (a b : Rational) → neg_ℚ (a -ℚ b) ≡ b -ℚ a
turned a b = simp (field, signs)

module _ (p : Problem) (ds : List Derived) (sides : List Side) (b : List Place) (d : Dictionary) (x : ℕ → Rational) (r : ℕ)
    (over : IsOverColumns p ds sides) (in_order : AreBoundsInOrder (system_of p ds sides)) (is_dictionary : IsDictionary (system_of p ds sides) b d) (is_point : IsBasicPoint (system_of p ds sides) b x) (basic : IsBasic b r) where
  none_of_r : rate_of d r r ≡ zero_ℚ
  none_of_r = not_resting b (d.row r) r (is_dictionary.over_resting.rows r basic) (λ h. h.not_basic basic)

  row_below : AllBelow (size (system_of p ds sides)) (d.row r)
  row_below = below b (size (system_of p ds sides)) (d.row r) is_dictionary.size (is_dictionary.over_resting.rows r basic)

  form_below : AllBelow (size (system_of p ds sides)) (row_form d r)
  form_below = below-append (size (system_of p ds sides)) (unit_form r) (minus (d.row r)) (rw (← is_dictionary.size) (basic_known b r basic), tt) (below-scaled (size (system_of p ds sides)) (whole (negsuc 0)) (d.row r) row_below)

  weight-self : row_weight d r r ≡ one_ℚ
  weight-self = ap (λ t. cond t one_ℚ (neg_ℚ (rate_of d r r))) (eq-eqb r r refl)

  weight-other : (v : ℕ) → v ≢ r → row_weight d r v ≡ neg_ℚ (rate_of d v r)
  weight-other v n = ap (λ t. cond t one_ℚ (neg_ℚ (rate_of d v r))) (other_test v r n)

  coefficient-row : (v : ℕ) → coefficient_of (row_form d r) v ≡ row_weight d r v
  coefficient-row v = coefficient-append (unit_form r) (minus (d.row r)) v ∙ elim (ℕ_discrete v r) [
    | yes same ↦ let P : ℕ → Type 0 = λ u. coefficient_of (unit_form r) u +ℚ coefficient_of (minus (d.row r)) u ≡ row_weight d r u in
        subst P (sym same) (ap₂ ◌+ℚ◌ (unit_self r) (coefficient-minus (d.row r) r ∙ ap neg_ℚ none_of_r ∙ neg-zero) ∙ Q.add-zero one_ℚ ∙ sym weight-self)
    | no n ↦ ap₂ ◌+ℚ◌ (unit_other r v n) (coefficient-minus (d.row r) v) ∙ Q.zero-add _ ∙ sym (weight-other v n)
  ]

  -- at each point of the system the form is 0
  row_zero : (y : ℕ → Rational) → Satisfies (system_of p ds sides) y → value_at y (row_form d r) ≡ zero_ℚ
  row_zero y h = value-row y d r ∙ ap (λ t. t -ℚ value_at y (d.row r)) (((is_dictionary.same_points y).0 h).values r basic) ∙ Q.add-neg _

  -- with the bound l at r it is what r is short of l
  row_short : (l : Rational) → value_at (put_at x r l) (row_form d r) ≡ l -ℚ x r
  row_short l = value-row (put_at x r l) d r ∙ ap₂ ◌-ℚ◌ (put-same x r l) (unmoved (d.row r) (is_dictionary.over_resting.rows r basic) ∙ sym (((is_dictionary.same_points x).0 is_point.solves).values r basic))
    where
      unmoved : (f : List Entry) → AllResting b f → value_at (put_at x r l) f ≡ value_at x f
      unmoved [] h = refl
      unmoved (e ∷ f) h = ap₂ (λ t u. e.coefficient *ℚ t +ℚ u) (put-other x r l e.column (λ w. (let P : ℕ → Type 0 = IsResting b in (subst P w (h.0)).not_basic basic))) (unmoved f h.1)

  -- ---- below the lower bound

  low_uses : (l : Rational) → lower_of (system_of p ds sides) r ≡ Some l → ((q : ℕ) → ¬ (Mends (system_of p ds sides) b x d r AtLower q))
      → (v : ℕ) → UsesBound (system_of p ds sides) v (row_weight d r v) (put_at x r l v)
  low_uses l is_lower none v = elim (ℕ_discrete v r) [
    | yes same ↦ let P : ℕ → Type 0 = λ u. UsesBound (system_of p ds sides) u (row_weight d r u) (put_at x r l u) in
        subst P (sym same) (λ n. (let R : Rational → Type 0 = λ a. bound_used a (lower_of (system_of p ds sides) r) (upper_of (system_of p ds sides) r) ≡ Some (put_at x r l r) in
        subst R (sym weight-self) (is_lower ∙ ap Some (sym (put-same x r l)))))
    | no n ↦ let P : Rational → Rational → Type 0 = λ a y. UsesBound (system_of p ds sides) v a y in
        rw (weight-other v n, put-other x r l v n) (other v n)
  ]
    where
      other : (v : ℕ) → v ≢ r → UsesBound (system_of p ds sides) v (neg_ℚ (rate_of d v r)) (x v)
      other v n = elim (rests_or b v) [
        | inl rests ↦ held_up (system_of p ds sides) x v (rate_of d v r) (resting_inside (system_of p ds sides) b x v in_order is_point rests) (λ can. none v (record { resting = rests; can_mend = can }))
        | inr not ↦ λ some. absurd (some (ap neg_ℚ (not_resting b (d.row r) v (is_dictionary.over_resting.rows r basic) not) ∙ neg-zero))
      ]

  pub low_shows : (l : Rational) → lower_of (system_of p ds sides) r ≡ Some l → x r <ℚ l → ((q : ℕ) → ¬ (Mends (system_of p ds sides) b x d r AtLower q))
      → ShowsInfeasible p ds sides (weights_of p ds (row_weights d r))
  low_shows l is_lower passed none =
      let uses : (v : ℕ) → v < size (system_of p ds sides) → UsesBound (system_of p ds sides) v (row_weight d r v) (put_at x r l v) = λ v k. low_uses l is_lower none v in
      record {
        sum_terms = all_terms p ds sides (row_weights d r);
        are_terms = weights_there p ds sides (row_weight d r) (row_form d r) (put_at x r l) form_below (λ v k. coefficient-row v) uses;
        form = same_forms (system_of p ds sides) (combined (all_terms p ds sides (row_weights d r))) [] (is_system p ds sides over) (terms_below p ds sides (row_weights d r) over) tt
            (λ y k. weights_value p ds sides (row_weight d r) (row_form d r) (put_at x r l) form_below (λ v m. coefficient-row v) uses y k ∙ row_zero y k);
        bound = (let P : Rational → Type 0 = λ t. zero_ℚ <ℚ t in subst P (sym (weights_bound p ds sides (row_weight d r) (row_form d r) (put_at x r l) form_below (λ v k. coefficient-row v) uses ∙ row_short l)) (difference_above l (x r) passed));
      }

  -- ---- above the upper bound

  minus_below : AllBelow (size (system_of p ds sides)) (minus (row_form d r))
  minus_below = below-scaled (size (system_of p ds sides)) (whole (negsuc 0)) (row_form d r) form_below

  coefficient-minus_row : (v : ℕ) → coefficient_of (minus (row_form d r)) v ≡ neg_ℚ (row_weight d r v)
  coefficient-minus_row v = coefficient-minus (row_form d r) v ∙ ap neg_ℚ (coefficient-row v)

  high_uses : (u : Rational) → upper_of (system_of p ds sides) r ≡ Some u → ((q : ℕ) → ¬ (Mends (system_of p ds sides) b x d r AtUpper q))
      → (v : ℕ) → UsesBound (system_of p ds sides) v (neg_ℚ (row_weight d r v)) (put_at x r u v)
  high_uses u is_upper none v = elim (ℕ_discrete v r) [
    | yes same ↦ let P : ℕ → Type 0 = λ w. UsesBound (system_of p ds sides) w (neg_ℚ (row_weight d r w)) (put_at x r u w) in
        subst P (sym same) (λ n. (let R : Rational → Type 0 = λ a. bound_used a (lower_of (system_of p ds sides) r) (upper_of (system_of p ds sides) r) ≡ Some (put_at x r u r) in
        subst R (sym (ap neg_ℚ weight-self)) (rw (Q.false_less zero_ℚ (neg_ℚ one_ℚ) (Q.le_of_lt _ _ (neg_above one_ℚ one_above))) (is_upper ∙ ap Some (sym (put-same x r u))))))
    | no n ↦ let P : Rational → Rational → Type 0 = λ a y. UsesBound (system_of p ds sides) v a y in
        rw (weight-other v n, Q.neg_neg (rate_of d v r), put-other x r u v n) (other v n)
  ]
    where
      other : (v : ℕ) → v ≢ r → UsesBound (system_of p ds sides) v (rate_of d v r) (x v)
      other v n = elim (rests_or b v) [
        | inl rests ↦ held_down (system_of p ds sides) x v (rate_of d v r) (resting_inside (system_of p ds sides) b x v in_order is_point rests) (λ can. none v (record { resting = rests; can_mend = can }))
        | inr not ↦ λ some. absurd (some (not_resting b (d.row r) v (is_dictionary.over_resting.rows r basic) not))
      ]

  pub high_shows : (u : Rational) → upper_of (system_of p ds sides) r ≡ Some u → u <ℚ x r → ((q : ℕ) → ¬ (Mends (system_of p ds sides) b x d r AtUpper q))
      → ShowsInfeasible p ds sides (weights_of p ds (minus_row_weights d r))
  high_shows u is_upper passed none =
      let uses : (v : ℕ) → v < size (system_of p ds sides) → UsesBound (system_of p ds sides) v (neg_ℚ (row_weight d r v)) (put_at x r u v) = λ v k. high_uses u is_upper none v in
      record {
        sum_terms = all_terms p ds sides (minus_row_weights d r);
        are_terms = weights_there p ds sides (λ v. neg_ℚ (row_weight d r v)) (minus (row_form d r)) (put_at x r u) minus_below (λ v k. coefficient-minus_row v) uses;
        form = same_forms (system_of p ds sides) (combined (all_terms p ds sides (minus_row_weights d r))) [] (is_system p ds sides over) (terms_below p ds sides (minus_row_weights d r) over) tt
            (λ y k. weights_value p ds sides (λ v. neg_ℚ (row_weight d r v)) (minus (row_form d r)) (put_at x r u) minus_below (λ v m. coefficient-minus_row v) uses y k ∙ value-minus y (row_form d r) ∙ ap neg_ℚ (row_zero y k) ∙ neg-zero);
        bound = (let P : Rational → Type 0 = λ t. zero_ℚ <ℚ t in
            subst P (sym (weights_bound p ds sides (λ v. neg_ℚ (row_weight d r v)) (minus (row_form d r)) (put_at x r u) minus_below (λ v k. coefficient-minus_row v) uses ∙ value-minus (put_at x r u) (row_form d r) ∙ ap neg_ℚ (row_short u) ∙ turned u (x r)))
            (difference_above (x r) u passed));
      }

pub blocked_shows : (p : Problem) (ds : List Derived) (sides : List Side) (b : List Place) (d : Dictionary) (x : ℕ → Rational) (r : ℕ) (place : Place) → IsOverColumns p ds sides → IsBlocked (system_of p ds sides) b d x r place
    → ShowsInfeasible p ds sides (weights_of p ds (blocking_weights d r place))
blocked_shows p ds sides b d x r Basic over h = absurd h.passed
blocked_shows p ds sides b d x r AtLower over h = low_shows p ds sides b d x r over h.in_order h.is_dictionary h.is_point h.first_outside.holds.basic h.passed.0 h.passed.1 h.passed.2 h.none_mends
blocked_shows p ds sides b d x r AtUpper over h = high_shows p ds sides b d x r over h.in_order h.is_dictionary h.is_point h.first_outside.holds.basic h.passed.0 h.passed.1 h.passed.2 h.none_mends
blocked_shows p ds sides b d x r AtZero over h = absurd h.passed

-- ---- contradictory bounds

-- a sum of which one part counts
sum_one : (n u : ℕ) (g : ℕ → Rational) → u < n → ((v : ℕ) → v ≢ u → g v ≡ zero_ℚ) → sum_below n g ≡ g u
sum_one zero u g h k = absurd (omega arith)
sum_one (suc n) u g h k = elim (ℕ_discrete u n) [
  | yes same ↦ ap₂ ◌+ℚ◌ (ap g (sym same)) (sum_zero n g (λ v m. k v (λ e. absurd (omega arith)))) ∙ Q.add-zero (g u)
  | no differ ↦ ap₂ ◌+ℚ◌ (k n (λ e. differ (sym e))) (sum_one n u g (omega arith) k) ∙ Q.zero-add (g u)
]

module _ (p : Problem) (ds : List Derived) (sides : List Side) (u : ℕ) (over : IsOverColumns p ds sides) (h : IsContradictory (system_of p ds sides) u) where
  known : u < size (system_of p ds sides)
  known = elim (dec_lt u (size (system_of p ds sides))) [
    | yes low ↦ low
    | no high ↦
        let past : slice_get ((system_of p ds sides).bounds) u ≡ None = slice_get_past ((system_of p ds sides).bounds) u (rw ((is_system p ds sides over).bounds) (omega arith)) in
        absurd (clash (sym (ap (option_and_then (λ (b : Bounds). b.lower)) past) ∙ h.is_lower))
  ]
    where
      clash : ¬ (None ≡ Some h.lower)
      clash k = cc

  weights_here : contradiction_weights u u ≡ one_ℚ ∷ whole (negsuc 0) ∷ []
  weights_here = ap (λ t. cond t (one_ℚ ∷ whole (negsuc 0) ∷ []) []) (eq-eqb u u refl)

  weights_elsewhere : (v : ℕ) → v ≢ u → contradiction_weights u v ≡ []
  weights_elsewhere v n = ap (λ t. cond t (one_ℚ ∷ whole (negsuc 0) ∷ []) []) (other_test v u n)

  minus_one : whole (negsuc 0) ≡ neg_ℚ one_ℚ
  minus_one = Q.neg_whole (pos 1)

  lower_used : bound_used one_ℚ (lower_of (system_of p ds sides) u) (upper_of (system_of p ds sides) u) ≡ Some h.lower
  lower_used = h.is_lower

  upper_used : bound_used (whole (negsuc 0)) (lower_of (system_of p ds sides) u) (upper_of (system_of p ds sides) u) ≡ Some h.upper
  upper_used = h.is_upper

  read : (a y : Rational) → bound_used a (lower_of (system_of p ds sides) u) (upper_of (system_of p ds sides) u) ≡ Some y → used (system_of p ds sides) a u ≡ y
  read a y e = ap (λ o. unwrap_or o zero_ℚ) e

  bounds_there : (v : ℕ) → AreBoundsThere (system_of p ds sides) v (contradiction_weights u v)
  bounds_there v = elim (ℕ_discrete v u) [
    | yes same ↦ let P : ℕ → Type 0 = λ w. AreBoundsThere (system_of p ds sides) w (contradiction_weights u w) in
        let R : List Rational → Type 0 = AreBoundsThere (system_of p ds sides) u in
        subst P (sym same) (subst R (sym weights_here) (lower_used ∙ ap Some (sym (read one_ℚ h.lower lower_used)), (upper_used ∙ ap Some (sym (read (whole (negsuc 0)) h.upper upper_used)), tt)))
    | no n ↦ let R : List Rational → Type 0 = AreBoundsThere (system_of p ds sides) v in subst R (sym (weights_elsewhere v n)) tt
  ]

  no_sum : (v : ℕ) → list_sum (contradiction_weights u v) ≡ zero_ℚ
  no_sum v = elim (ℕ_discrete v u) [
    | yes same ↦ let P : ℕ → Type 0 = λ w. list_sum (contradiction_weights u w) ≡ zero_ℚ in
        subst P (sym same) (ap list_sum weights_here ∙ ap (λ t. one_ℚ +ℚ t) (Q.add-zero _ ∙ minus_one) ∙ Q.add-neg one_ℚ)
    | no n ↦ ap list_sum (weights_elsewhere v n)
  ]

  gap : used_sum (system_of p ds sides) u (contradiction_weights u u) ≡ h.lower -ℚ h.upper
  gap = ap (used_sum (system_of p ds sides) u) weights_here
      ∙ ap₂ ◌+ℚ◌ (Q.one-mul _ ∙ read one_ℚ h.lower lower_used) (Q.add-zero _ ∙ minus_one-mul _ ∙ ap neg_ℚ (read (whole (negsuc 0)) h.upper upper_used))

  pub contradiction_shows : ShowsInfeasible p ds sides (weights_of p ds (contradiction_weights u))
  contradiction_shows = record {
    sum_terms = all_terms p ds sides (contradiction_weights u);
    are_terms = terms_are p ds sides (contradiction_weights u) (λ v k. bounds_there v);
    form = same_forms (system_of p ds sides) (combined (all_terms p ds sides (contradiction_weights u))) [] (is_system p ds sides over) (terms_below p ds sides (contradiction_weights u) over) tt
        (λ y k. terms_value p ds sides (contradiction_weights u) y k ∙ sum_zero (size (system_of p ds sides)) (λ v. list_sum (contradiction_weights u v) *ℚ y v) (λ v m. ap (λ t. t *ℚ y v) (no_sum v) ∙ Q.zero-mul (y v)));
    bound = (let P : Rational → Type 0 = λ t. zero_ℚ <ℚ t in
        subst P (sym (terms_bound p ds sides (contradiction_weights u)
        ∙ sum_one (size (system_of p ds sides)) u (λ v. used_sum (system_of p ds sides) v (contradiction_weights u v)) known (λ v n. ap (used_sum (system_of p ds sides) v) (weights_elsewhere v n))
        ∙ gap)) (difference_above h.lower h.upper h.crossed));
  }

pub infeasible_shows : (p : Problem) (ds : List Derived) (sides : List Side) (w : Weights) → IsOverColumns p ds sides → IsInfeasibleRelaxation p ds sides w → ShowsInfeasible p ds sides w
infeasible_shows p ds sides w over (contradiction v h e) = let P : Weights → Type 0 = ShowsInfeasible p ds sides in subst P (sym e) (contradiction_shows p ds sides v over h)
infeasible_shows p ds sides w over (blocked b d x r place h e) = let P : Weights → Type 0 = ShowsInfeasible p ds sides in subst P (sym e) (blocked_shows p ds sides b d x r place over h)

pub refutes_leaf : (p : Problem) (ds : List Derived) (sides : List Side) (w : Weights) → ShowsInfeasible p ds sides w → refutes (length p.columns) (terms p ds sides [] w) ≡ true
refutes_leaf p ds sides w h = rw (h.are_terms) (and_from _ _ h.form (Q.true_less _ _ h.bound))
