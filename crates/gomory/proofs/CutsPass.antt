-- A Gomory cut passes the checker's test of a derived row, and its basic point falls short of it by 1.
use Rattle.std.proofs.Common.{◌≡◌, ◌∙◌, ℕ, zero, suc, ◌+◌, ◌<◌, ◌≤◌, ◌≢◌, List, [], ◌∷◌, ◌++◌, length, refl, sym, ap, subst, arith, Bool, true, false, Some, None, Option, slice_get, ◌⊎◌, inl, inr}
use Rattle.std.specs.Prelude.{pos, negsuc, ◌&&◌, if◌then◌else◌, IfSome, nat_lt, option_map, ◌==◌}
use Rattle.std.proofs.lemmas.Bool.{and_from}
use Rattle.std.proofs.lemmas.Bool.Decides.{nat_tests}
use Rattle.std.proofs.lemmas.Option.{slice_get_past}
use Rattle.std.proofs.Math.Decide.{ℕ_discrete, dec_lt}
use mathlib.Core.Path.{ap₂}
use Rattle.rational.specs.Rational.{Rational, whole, zero_ℚ, one_ℚ, neg_ℚ, inv_ℚ, floor_ℚ, ◌+ℚ◌, ◌-ℚ◌, ◌*ℚ◌, ◌<ℚ◌, ◌≤ℚ◌}
use Rattle.rational.specs.Compare.{is_at_most, is_whole}
use Rattle.rational.proofs.Laws as Q
use Rattle.rational.proofs.Laws.{field, field_units, signs, whole_true}
use Rattle.milp.specs.Form.{Entry, value_at}
use Rattle.milp.specs.Problem.{Row, Problem}
use Rattle.milp.specs.Points.{IsWhole}
use Rattle.verdicts.specs.Certificate.{Derived, BySplit, Weights}
use Rattle.verdicts.specs.WeightedSums.{Weighted, scaled, combined, combined_bound, coefficient_of, sum_below, AllBelow}
use Rattle.verdicts.specs.Proves.{terms, joined, shows, low_term, high_term, is_whole_form, in_range, proof_passes, derived_passes, is_integer}
use Rattle.verdicts.proofs.Laws.{le_by, minus_one-mul, neg-zero, value_by_column, value-append, value-scaled}
use Rattle.basis.specs.System.{size, lower_of, upper_of, Satisfies, unit_form}
use Rattle.basis.specs.Dictionary.{place_of, Dictionary, IsDictionary, rate_of, IsBasicPoint, RestsAt}
use Rattle.basis.specs.Node.{system_of, integer_at, IsOverColumns}
use Rattle.basis.specs.Weights.{nonzero}
use Rattle.basis.specs.declared.Place.{Place}
use Rattle.basis.specs.declared.Place.TheVariants.{Basic, AtLower, AtUpper, AtZero}
use Rattle.basis.proofs.Laws.{not_resting, below, basic_known, all_terms, terms_below, weights_there_at, weights_sum_at, bounds_sum_at, UsesBound, same_forms, is_system, node_size, row_form, value-unit, unit_self, unit_other, below-append, below-scaled, nonzero_cases}
use Rattle.gomory.specs.Cuts.{distance_sign, distance_coefficient, fractional_part, is_whole_column, cut_coefficient, remainder, cut_weight, remainder_weight, low_weight, high_weight, split_coefficient, entries_at, form_from, IsRowOfBasis, HasCut, IsGomoryCut, IsRootCut}
use Rattle.gomory.proofs.FractionalParts.{part_above, part_from, part_lt, floor_below, lt_or, inverse, inverse_from, difference_above, IsWhole-add, IsWhole-mul}
use Rattle.gomory.proofs.VariableSums.{sum_combine, sum_longer, sum_neg, sum_value, sum_whole, value_from, below_from}
use Rattle.gomory.proofs.WeightSigns.{IsRate, is_rate, low_from, high_from}

all_in_range : (n : ℕ) (f : List Entry) → AllBelow n f → in_range n f ≡ true
all_in_range n [] h = refl
all_in_range n (e ∷ f) h = let here : nat_lt e.column n ≡ true = (let k = h.0 in grind (arith, nat_tests)) in and_from _ _ here (all_in_range n f h.1)

module _ (p : Problem) (b : List Place) (d : Dictionary) (rates x : ℕ → Rational) (r : ℕ)
    (over : IsOverColumns p [] []) (is_dictionary : IsDictionary (system_of p [] []) b d) (is_point : IsBasicPoint (system_of p [] []) b x) (agree : (v : ℕ) → v < size (system_of p [] []) → rates v ≡ rate_of d v r) (h : HasCut p b rates x r) where
  f0_above : zero_ℚ <ℚ fractional_part (x r)
  f0_above = part_above (x r) h.not_whole

  rest0_above : zero_ℚ <ℚ one_ℚ -ℚ fractional_part (x r)
  rest0_above = difference_above one_ℚ (fractional_part (x r)) (part_lt (x r))

  low_inverse : zero_ℚ ≤ℚ inv_ℚ (fractional_part (x r))
  low_inverse = inverse_from _ f0_above

  high_inverse : zero_ℚ ≤ℚ inv_ℚ (one_ℚ -ℚ fractional_part (x r))
  high_inverse = inverse_from _ rest0_above

  known : r < size (system_of p [] [])
  known = rw (← is_dictionary.size) (basic_known b r h.basic)

  row_below : AllBelow (size (system_of p [] [])) (d.row r)
  row_below = below b (size (system_of p [] [])) (d.row r) is_dictionary.size (is_dictionary.over_resting.rows r h.basic)

  -- ---- the bounds that the weights use

  rests_there : (v : ℕ) → v < size (system_of p [] []) → RestsAt (system_of p [] []) (place_of b v) v (x v)
  rests_there v k = is_point.rests v (rw (is_dictionary.size) k)

  uses_at : (place : Place) (v : ℕ) (a : Rational) → RestsAt (system_of p [] []) place v (x v) → zero_ℚ ≤ℚ a → UsesBound (system_of p [] []) v (distance_sign place *ℚ a) (x v)
  uses_at Basic v a rests from n = absurd (n (Q.zero-mul a))
  uses_at AtLower v a rests from n =
      let positive : zero_ℚ <ℚ one_ℚ *ℚ a = lt_or _ _ (λ e. n (sym e)) (le_by _ _ _ _ refl (Q.one-mul a) from) in
      ap (λ t. if t then lower_of (system_of p [] []) v else upper_of (system_of p [] []) v) (Q.true_less _ _ positive) ∙ rests
  uses_at AtUpper v a rests from n =
      let low : whole (negsuc 0) *ℚ a ≤ℚ zero_ℚ = le_by _ _ _ _ (minus_one-mul a) (sym (Q.add-neg a) ∙ Q.add_comm a (neg_ℚ a)) (le_by _ _ _ _ (sym (Q.add-zero (neg_ℚ a))) refl (Q.add-le-add _ _ _ _ (Q.le_refl (neg_ℚ a)) from)) in
      ap (λ t. if t then lower_of (system_of p [] []) v else upper_of (system_of p [] []) v) (Q.false_less _ _ low) ∙ rests
  uses_at AtZero v a rests from n = absurd (n (Q.zero-mul a))

  coefficient_of_v : (v : ℕ) → IsRate (fractional_part (x r)) (cut_coefficient (fractional_part (x r)) (is_whole_column p x v) (distance_coefficient b rates v)) (remainder (fractional_part (x r)) (is_whole_column p x v) (distance_coefficient b rates v))
  coefficient_of_v v = is_rate (fractional_part (x r)) (is_whole_column p x v) (distance_coefficient b rates v)

  low_uses : (v : ℕ) → v < size (system_of p [] []) → UsesBound (system_of p [] []) v (low_weight p b rates x r v) (x v)
  low_uses v k = uses_at (place_of b v) v _ (rests_there v k) (low_from _ _ _ low_inverse high_inverse (coefficient_of_v v))

  high_uses : (v : ℕ) → v < size (system_of p [] []) → UsesBound (system_of p [] []) v (high_weight p b rates x r v) (x v)
  high_uses v k = uses_at (place_of b v) v _ (rests_there v k) (high_from _ _ _ low_inverse high_inverse (coefficient_of_v v))

  -- ---- the form of the split

  -- minus the rate of v is its fall, with the sign of its distance
  rate_by_fall : (v : ℕ) → v < size (system_of p [] []) → rate_of d v r ≡ neg_ℚ (distance_sign (place_of b v) *ℚ distance_coefficient b rates v)
  rate_by_fall v k = sym (agree v k) ∙ go (place_of b v) refl
    where
      once : (a : Rational) → a ≡ neg_ℚ (one_ℚ *ℚ neg_ℚ (one_ℚ *ℚ a))
      once a = simp (signs, field_units)

      twice : (a m : Rational) → m ≡ neg_ℚ one_ℚ → a ≡ neg_ℚ (m *ℚ neg_ℚ (m *ℚ a))
      twice a m e = rw e (again a)
        where
          again : (a : Rational) → a ≡ neg_ℚ (neg_ℚ one_ℚ *ℚ neg_ℚ (neg_ℚ one_ℚ *ℚ a))
          again a = simp (field, signs, field_units)

      none : (a : Rational) → a ≡ zero_ℚ → a ≡ neg_ℚ (zero_ℚ *ℚ neg_ℚ (zero_ℚ *ℚ a))
      none a e = e ∙ sym (ap neg_ℚ (Q.zero-mul _) ∙ neg-zero)

      go : (place : Place) → place_of b v ≡ place → rates v ≡ neg_ℚ (distance_sign place *ℚ neg_ℚ (distance_sign place *ℚ rates v))
      go Basic e = none _ (agree v k ∙ not_resting b (d.row r) v (is_dictionary.over_resting.rows r h.basic) (λ rests. rests.not_basic e))
      go AtLower e = once _
      go AtUpper e = twice _ _ (Q.neg_whole (pos 1))
      go AtZero e = none _ (h.bounded v (rw (is_dictionary.size) k) e)

  column_known : r < length p.columns
  column_known = go (nat_lt r (length p.columns)) refl
    where
      never : false ≡ true → ⊥
      never e = let no : false ≡ true = e in cc

      go : (t : Bool) → nat_lt r (length p.columns) ≡ t → r < length p.columns
      go true e = grind (arith, nat_tests)
      go false e = let past : length p.columns ≤ r = grind (arith, nat_tests) in absurd (never (sym (ap is_integer (slice_get_past p.columns r past)) ∙ h.integer))

  -- beyond the columns no variable counts as whole
  beyond : (v : ℕ) → length p.columns ≤ v → distance_sign (place_of b v) *ℚ (distance_coefficient b rates v -ℚ remainder (fractional_part (x r)) (is_whole_column p x v) (distance_coefficient b rates v)) ≡ zero_ℚ
  beyond v k =
      ap (λ o. distance_sign (place_of b v) *ℚ (distance_coefficient b rates v -ℚ remainder (fractional_part (x r)) (is_integer o && is_whole (x v)) (distance_coefficient b rates v))) (slice_get_past p.columns v k)
      ∙ ap (λ t. distance_sign (place_of b v) *ℚ t) (Q.add-neg _) ∙ Q.mul-zero _

  -- the split's form is minus the sum of what rests
  abbrev rests_sum : (ℕ → Rational) → Rational
  rests_sum z = sum_below (size (system_of p [] [])) (λ v. remainder_weight p b rates x r v *ℚ z v)

  -- the whole number near a_v, with the sign of t_v
  abbrev near : ℕ → Rational
  near v = distance_sign (place_of b v) *ℚ (distance_coefficient b rates v -ℚ remainder (fractional_part (x r)) (is_whole_column p x v) (distance_coefficient b rates v))

  near_sum : (z : ℕ → Rational) → sum_below (length p.columns) (λ v. near v *ℚ z v) ≡ sum_below (size (system_of p [] [])) (λ v. near v *ℚ z v)
  near_sum z =
      let e : length p.rows + 0 + length p.columns ≡ size (system_of p [] []) = (let k = node_size p [] [] in omega arith) in
      sym (sum_longer (length p.columns) (length p.rows + 0) (λ v. near v *ℚ z v) (λ v k. ap (λ t. t *ℚ z v) (beyond v k) ∙ Q.zero-mul _)) ∙ ap (λ m. sum_below m (λ v. near v *ℚ z v)) e

  unit_sum : (z : ℕ → Rational) → Satisfies (system_of p [] []) z → sum_below (length p.columns) (λ v. coefficient_of (unit_form r) v *ℚ z v) ≡ sum_below (size (system_of p [] [])) (λ v. rate_of d v r *ℚ z v)
  unit_sum z k =
      sym (value_by_column (length p.columns) z (unit_form r) (column_known, tt)) ∙ value-unit z r
      ∙ ((is_dictionary.same_points z).0 k).values r h.basic
      ∙ value_by_column (size (system_of p [] [])) z (d.row r) row_below

  two : (c m y : Rational) → one_ℚ *ℚ (c *ℚ y) +ℚ m *ℚ y ≡ (c +ℚ m) *ℚ y
  two c m y = simp (field, field_units)

  split_value : (z : ℕ → Rational) → Satisfies (system_of p [] []) z → value_at z (form_from 0 (length p.columns) (split_coefficient p b rates x r)) ≡ neg_ℚ (rests_sum z)
  split_value z k =
      value_from z (split_coefficient p b rates x r) (length p.columns)
      ∙ sym (sum_combine (length p.columns) one_ℚ (λ v. coefficient_of (unit_form r) v *ℚ z v) (λ v. near v *ℚ z v) (λ v. split_coefficient p b rates x r v *ℚ z v) (λ v l. two (coefficient_of (unit_form r) v) (near v) (z v)))
      ∙ ap₂ (λ s t. one_ℚ *ℚ s +ℚ t) (unit_sum z k) (near_sum z)
      ∙ sum_combine (size (system_of p [] [])) one_ℚ (λ v. rate_of d v r *ℚ z v) (λ v. near v *ℚ z v) (λ v. neg_ℚ (remainder_weight p b rates x r v *ℚ z v))
      (λ v l. ap (λ t. one_ℚ *ℚ (t *ℚ z v) +ℚ near v *ℚ z v) (rate_by_fall v l) ∙ less (distance_sign (place_of b v)) (distance_coefficient b rates v) (remainder (fractional_part (x r)) (is_whole_column p x v) (distance_coefficient b rates v)) (z v))
      ∙ sum_neg (size (system_of p [] [])) (λ v. remainder_weight p b rates x r v *ℚ z v)
    where
      less : (s a e y : Rational) → one_ℚ *ℚ (neg_ℚ (s *ℚ a) *ℚ y) +ℚ (s *ℚ (a -ℚ e)) *ℚ y ≡ neg_ℚ ((s *ℚ e) *ℚ y)
      less s a e y = simp (field, signs, field_units)

  -- ---- its coefficients are whole numbers on columns that are to be whole

  IsWhole_by : (a c : Rational) → a ≡ c → IsWhole c → IsWhole a
  IsWhole_by a c e k = ap (λ (q : Rational). q.denominator) e ∙ k

  IsWhole-distance_sign : (place : Place) → IsWhole (distance_sign place)
  IsWhole-distance_sign Basic = refl
  IsWhole-distance_sign AtLower = refl
  IsWhole-distance_sign AtUpper = refl
  IsWhole-distance_sign AtZero = refl

  IsWhole-near : (f a : Rational) → IsWhole (a -ℚ remainder f true a)
  IsWhole-near f a = choose (is_at_most (fractional_part a) f)
    where
      apart : (a w : Rational) → neg_ℚ (a -ℚ w) ≡ neg_ℚ a +ℚ w
      apart a w = simp (field, signs)

      further : (a w : Rational) → (a -ℚ w) -ℚ one_ℚ ≡ a -ℚ (w +ℚ one_ℚ)
      further a w = simp (field, signs)

      under : (a w : Rational) → a -ℚ (a -ℚ w) ≡ w
      under a w = ap (λ t. a +ℚ t) (apart a w) ∙ Q.cancel_left a w

      upward : (a w : Rational) → a -ℚ ((a -ℚ w) -ℚ one_ℚ) ≡ w +ℚ one_ℚ
      upward a w = ap (λ t. a -ℚ t) (further a w) ∙ under a (w +ℚ one_ℚ)

      choose : (t : Bool) → IsWhole (a -ℚ (if t then fractional_part a else fractional_part a -ℚ one_ℚ))
      choose true = IsWhole_by _ _ (under a (whole (floor_ℚ a))) refl
      choose false = IsWhole_by _ _ (upward a (whole (floor_ℚ a))) (IsWhole-add (whole (floor_ℚ a)) one_ℚ refl refl)

  -- 0, or a whole number on a column that is to be whole
  abbrev Serves : ℕ → Rational → Type 0
  Serves v a = (a ≡ zero_ℚ) ⊎ (IsWhole a × (integer_at p v ≡ true))

  serves : (v : ℕ) → Serves v (split_coefficient p b rates x r v)
  serves v = elim (ℕ_discrete v r) [
    | yes e ↦ inr (at_r e)
    | no n ↦ other n (is_whole_column p x v) refl
  ]
    where
      at_r : v ≡ r → IsWhole (split_coefficient p b rates x r v) × (integer_at p v ≡ true)
      at_r e = let P : ℕ → Type 0 = λ u. IsWhole (split_coefficient p b rates x r u) × (integer_at p u ≡ true) in
          subst P (sym e) (IsWhole_by _ _ (ap₂ ◌+ℚ◌ (unit_self r) (ap (λ place. distance_sign place *ℚ (distance_coefficient b rates r -ℚ remainder (fractional_part (x r)) (is_whole_column p x r) (distance_coefficient b rates r))) h.basic ∙ Q.zero-mul _) ∙ Q.add-zero one_ℚ) refl, h.integer)

      first : (s t : Bool) → (s && t) ≡ true → s ≡ true
      first true t e = refl
      first false t e = e

      other : v ≢ r → (t : Bool) → is_whole_column p x v ≡ t → Serves v (split_coefficient p b rates x r v)
      other n true e = inr (
        IsWhole_by _ _ (ap₂ ◌+ℚ◌ (unit_other r v n) (ap (λ t. distance_sign (place_of b v) *ℚ (distance_coefficient b rates v -ℚ remainder (fractional_part (x r)) t (distance_coefficient b rates v))) e) ∙ Q.zero-add _)
            (IsWhole-mul (distance_sign (place_of b v)) _ (IsWhole-distance_sign (place_of b v)) (IsWhole-near (fractional_part (x r)) (distance_coefficient b rates v))),
        first (integer_at p v) (is_whole (x v)) e,
      )
      other n false e = inl (ap₂ ◌+ℚ◌ (unit_other r v n) (ap (λ t. distance_sign (place_of b v) *ℚ (distance_coefficient b rates v -ℚ remainder (fractional_part (x r)) t (distance_coefficient b rates v))) e ∙ ap (λ t. distance_sign (place_of b v) *ℚ t) (Q.add-neg (distance_coefficient b rates v)) ∙ Q.mul-zero _) ∙ Q.add-zero zero_ℚ)

  whole_run : (f : ℕ → Rational) → ((v : ℕ) → Serves v (f v)) → (j count : ℕ) → is_whole_form p (form_from j count f) ≡ true
  whole_run f k j zero = refl
  whole_run f k j (suc count) = nonzero_cases (f j)
      (λ e z. ap (λ l. is_whole_form p (entries_at j l ++ form_from (suc j) count f)) e ∙ whole_run f k (suc j) count)
      (λ e n. ap (λ l. is_whole_form p (entries_at j l ++ form_from (suc j) count f)) e
      ∙ elim (k j) [
        | inl z ↦ absurd (n z)
        | inr w ↦ and_from _ _ (and_from _ _ (ap (λ m. m == 1) w.0) w.1) (whole_run f k (suc j) count)
      ])

  -- ---- its value at the basic point is whole but for the fractional part of r's number

  near_whole : (v : ℕ) → IsWhole (near v *ℚ x v)
  near_whole v = go (is_whole_column p x v) refl
    where
      second : (s t : Bool) → (s && t) ≡ true → t ≡ true
      second true t e = e
      second false t e = absurd (never e)
        where
          never : false ≡ true → ⊥
          never e = let no : false ≡ true = e in cc

      go : (t : Bool) → is_whole_column p x v ≡ t → IsWhole (near v *ℚ x v)
      go true e = IsWhole_by _ _ (ap (λ t. distance_sign (place_of b v) *ℚ (distance_coefficient b rates v -ℚ remainder (fractional_part (x r)) t (distance_coefficient b rates v)) *ℚ x v) e)
          (IsWhole-mul _ (x v) (IsWhole-mul (distance_sign (place_of b v)) _ (IsWhole-distance_sign (place_of b v)) (IsWhole-near (fractional_part (x r)) (distance_coefficient b rates v))) (whole_true (x v) (second (integer_at p v) (is_whole (x v)) e)))
      go false e = IsWhole_by _ _ (ap (λ t. distance_sign (place_of b v) *ℚ (distance_coefficient b rates v -ℚ remainder (fractional_part (x r)) t (distance_coefficient b rates v)) *ℚ x v) e
          ∙ ap (λ t. distance_sign (place_of b v) *ℚ t *ℚ x v) (Q.add-neg (distance_coefficient b rates v)) ∙ ap (λ t. t *ℚ x v) (Q.mul-zero _) ∙ Q.zero-mul (x v)) refl

  split_at : value_at x (form_from 0 (length p.columns) (split_coefficient p b rates x r)) ≡ x r +ℚ sum_below (length p.columns) (λ v. near v *ℚ x v)
  split_at =
      value_from x (split_coefficient p b rates x r) (length p.columns)
      ∙ sym (sum_combine (length p.columns) one_ℚ (λ v. coefficient_of (unit_form r) v *ℚ x v) (λ v. near v *ℚ x v) (λ v. split_coefficient p b rates x r v *ℚ x v) (λ v l. two (coefficient_of (unit_form r) v) (near v) (x v)))
      ∙ ap (λ s. s +ℚ sum_below (length p.columns) (λ v. near v *ℚ x v)) (Q.one-mul _ ∙ sym (value_by_column (length p.columns) x (unit_form r) (column_known, tt)) ∙ value-unit x r)

  split_whole : IsWhole (value_at x (form_from 0 (length p.columns) (split_coefficient p b rates x r)) -ℚ fractional_part (x r))
  split_whole = IsWhole_by _ _
      (ap (λ t. t -ℚ fractional_part (x r)) split_at ∙ ap (λ t. x r +ℚ sum_below (length p.columns) (λ v. near v *ℚ x v) +ℚ t) (apart (x r) (whole (floor_ℚ (x r)))) ∙ four (x r) _ (neg_ℚ (x r)) (whole (floor_ℚ (x r)))
      ∙ ap (λ t. t +ℚ (whole (floor_ℚ (x r)) +ℚ sum_below (length p.columns) (λ v. near v *ℚ x v))) (Q.add-neg (x r)) ∙ Q.zero-add _)
      (IsWhole-add (whole (floor_ℚ (x r))) _ refl (sum_whole (length p.columns) (λ v. near v *ℚ x v) near_whole))
    where
      apart : (a w : Rational) → neg_ℚ (a -ℚ w) ≡ neg_ℚ a +ℚ w
      apart a w = simp (field, signs)

      four : (a s n w : Rational) → (a +ℚ s) +ℚ (n +ℚ w) ≡ (a +ℚ n) +ℚ (w +ℚ s)
      four a s n w = simp field

  -- ---- the two sides

  module _ (before : List Derived) (c : Derived) (g : IsGomoryCut p b rates x r c) where
    abbrev cut_sum : (ℕ → Rational) → Rational
    cut_sum z = sum_below (size (system_of p [] [])) (λ v. cut_weight p b rates x r v *ℚ z v)

    same_size : length p.columns + length p.rows ≡ size (system_of p [] [])
    same_size = let k = node_size p [] [] in omega arith

    rows_hold : (z : ℕ → Rational) → Satisfies (system_of p [] []) z → (k : ℕ) → IfSome (slice_get p.rows k) (λ row. z (length p.columns + k) ≡ value_at z row.entries)
    rows_hold z solves k = elim (dec_lt k (length p.rows)) [
      | yes l ↦ go (slice_get p.rows k) (subst (λ o. IfSome o (λ form. z (length p.columns + k) ≡ value_at z form)) (row_form p [] [] k l) (solves.values k))
      | no l ↦ subst (λ o. IfSome o (λ row. z (length p.columns + k) ≡ value_at z row.entries)) (sym (slice_get_past p.rows k (omega arith))) tt
    ]
      where
        go : (o : Option Row) → IfSome (option_map (λ (row : Row). row.entries) o) (λ form. z (length p.columns + k) ≡ value_at z form) → IfSome o (λ row. z (length p.columns + k) ≡ value_at z row.entries)
        go None h = tt
        go (Some row) h = h

    cut_value : (z : ℕ → Rational) → Satisfies (system_of p [] []) z → value_at z c.form ≡ cut_sum z
    cut_value z k =
        ap (value_at z) g.form ∙ sum_value p (cut_weight p b rates x r) z over.rows (rows_hold z k)
        ∙ ap (λ n. sum_below n (λ v. cut_weight p b rates x r v *ℚ z v)) same_size

    cut_bound : c.bound ≡ cut_sum x +ℚ one_ℚ
    cut_bound = g.bound ∙ ap (λ n. sum_below n (λ v. cut_weight p b rates x r v *ℚ x v) +ℚ one_ℚ) same_size

    pub cut_violated : value_at x c.form ≡ c.bound -ℚ one_ℚ
    cut_violated = cut_value x is_point.solves ∙ back (cut_sum x) one_ℚ ∙ ap (λ t. t -ℚ one_ℚ) (sym cut_bound)
      where
        back : (a k : Rational) → a ≡ (a +ℚ k) -ℚ k
        back a k = simp (field, signs, field_units)

    form_over : AllBelow (length p.columns) c.form
    form_over = let P : List Entry → Type 0 = AllBelow (length p.columns) in subst P (sym g.form) (below_from (length p.columns) 0 (length p.columns) _ (omega arith))

    split_over : AllBelow (length p.columns) g.split.form
    split_over = let P : List Entry → Type 0 = AllBelow (length p.columns) in subst P (sym g.is_split.form) (below_from (length p.columns) 0 (length p.columns) _ (omega arith))

    value_of_split : (z : ℕ → Rational) → Satisfies (system_of p [] []) z → value_at z g.split.form ≡ neg_ℚ (rests_sum z)
    value_of_split z k = ap (value_at z) g.is_split.form ∙ split_value z k

    at_value : whole g.split.at ≡ neg_ℚ (rests_sum x) -ℚ fractional_part (x r)
    at_value =
        ap whole g.is_split.at
        ∙ floor_below (value_at x g.split.form) (fractional_part (x r)) (IsWhole_by _ _ (ap (λ form. value_at x form -ℚ fractional_part (x r)) g.is_split.form) split_whole) (part_from (x r)) (part_lt (x r))
        ∙ ap (λ t. t -ℚ fractional_part (x r)) (value_of_split x is_point.solves)

    side_shows : (t : Weighted) (w : Weights) (ts : List Weighted) → terms p before [] [] w ≡ Some ts → AllBelow (length p.columns) t.form → AllBelow (length p.columns) (combined ts)
        → ((z : ℕ → Rational) → Satisfies (system_of p [] []) z → value_at z (combined (t ∷ ts)) ≡ cut_sum z) → combined_bound (t ∷ ts) ≡ cut_sum x +ℚ one_ℚ
        → shows (length p.columns) (joined (Some t) (terms p before [] [] w)) c.form c.bound ≡ true
    side_shows t w ts e here there value bound =
        ap (λ o. shows (length p.columns) (joined (Some t) o) c.form c.bound) e
        ∙ and_from _ _
        (same_forms (system_of p [] []) (combined (t ∷ ts)) c.form (is_system p [] [] over) (below-append (length p.columns) (scaled t.weight t.form) (combined ts) (below-scaled (length p.columns) t.weight t.form here) there) form_over (λ z k. value z k ∙ sym (cut_value z k)))
        (Q.true_at_most _ _ (le_by _ _ _ _ (cut_bound ∙ sym bound) refl (Q.le_refl _)))

    low_sum : (z : ℕ → Rational) → inv_ℚ (fractional_part (x r)) *ℚ rests_sum z +ℚ sum_below (size (system_of p [] [])) (λ v. low_weight p b rates x r v *ℚ z v) ≡ cut_sum z
    low_sum z = sum_combine (size (system_of p [] [])) (inv_ℚ (fractional_part (x r))) (λ v. remainder_weight p b rates x r v *ℚ z v) (λ v. low_weight p b rates x r v *ℚ z v) (λ v. cut_weight p b rates x r v *ℚ z v)
        (λ v l. order (inv_ℚ (fractional_part (x r))) (distance_sign (place_of b v)) (remainder (fractional_part (x r)) (is_whole_column p x v) (distance_coefficient b rates v)) (cut_coefficient (fractional_part (x r)) (is_whole_column p x v) (distance_coefficient b rates v)) (z v))
      where
        order : (i s e g y : Rational) → i *ℚ ((s *ℚ e) *ℚ y) +ℚ (s *ℚ (g -ℚ e *ℚ i)) *ℚ y ≡ (s *ℚ g) *ℚ y
        order i s e g y = simp (field, signs, field_units)

    high_sum : (z : ℕ → Rational) → neg_ℚ (inv_ℚ (one_ℚ -ℚ fractional_part (x r))) *ℚ rests_sum z +ℚ sum_below (size (system_of p [] [])) (λ v. high_weight p b rates x r v *ℚ z v) ≡ cut_sum z
    high_sum z = sum_combine (size (system_of p [] [])) (neg_ℚ (inv_ℚ (one_ℚ -ℚ fractional_part (x r)))) (λ v. remainder_weight p b rates x r v *ℚ z v) (λ v. high_weight p b rates x r v *ℚ z v) (λ v. cut_weight p b rates x r v *ℚ z v)
        (λ v l. order (inv_ℚ (one_ℚ -ℚ fractional_part (x r))) (distance_sign (place_of b v)) (remainder (fractional_part (x r)) (is_whole_column p x v) (distance_coefficient b rates v)) (cut_coefficient (fractional_part (x r)) (is_whole_column p x v) (distance_coefficient b rates v)) (z v))
      where
        order : (k s e g y : Rational) → neg_ℚ k *ℚ ((s *ℚ e) *ℚ y) +ℚ (s *ℚ (g +ℚ e *ℚ k)) *ℚ y ≡ (s *ℚ g) *ℚ y
        order k s e g y = simp (field, signs, field_units)

    abbrev low_terms : List Weighted
    low_terms = all_terms p [] [] (λ v. nonzero (low_weight p b rates x r v))

    abbrev high_terms : List Weighted
    high_terms = all_terms p [] [] (λ v. nonzero (high_weight p b rates x r v))

    low_value : (z : ℕ → Rational) → Satisfies (system_of p [] []) z → value_at z (combined (low_term g.split ∷ low_terms)) ≡ cut_sum z
    low_value z k =
        value-append z (scaled g.split.low (scaled (whole (negsuc 0)) g.split.form)) (combined low_terms)
        ∙ ap₂ ◌+ℚ◌
        (value-scaled z g.split.low (scaled (whole (negsuc 0)) g.split.form)
        ∙ ap₂ ◌*ℚ◌ g.is_split.low (value-scaled z (whole (negsuc 0)) g.split.form ∙ minus_one-mul _ ∙ ap neg_ℚ (value_of_split z k) ∙ Q.neg_neg _))
        (weights_sum_at p [] [] (low_weight p b rates x r) x low_uses z k)
        ∙ low_sum z

    high_value : (z : ℕ → Rational) → Satisfies (system_of p [] []) z → value_at z (combined (high_term g.split ∷ high_terms)) ≡ cut_sum z
    high_value z k =
        value-append z (scaled g.split.high g.split.form) (combined high_terms)
        ∙ ap₂ ◌+ℚ◌
        (value-scaled z g.split.high g.split.form ∙ ap₂ ◌*ℚ◌ g.is_split.high (value_of_split z k) ∙ turn _ _)
        (weights_sum_at p [] [] (high_weight p b rates x r) x high_uses z k)
        ∙ high_sum z
      where
        turn : (k e : Rational) → k *ℚ neg_ℚ e ≡ neg_ℚ k *ℚ e
        turn k e = simp (field, signs)

    low_bound : combined_bound (low_term g.split ∷ low_terms) ≡ cut_sum x +ℚ one_ℚ
    low_bound =
        ap₂ ◌+ℚ◌ (ap₂ ◌*ℚ◌ g.is_split.low (Q.neg_whole g.split.at ∙ ap neg_ℚ at_value)) (bounds_sum_at p [] [] (low_weight p b rates x r) x low_uses)
        ∙ order (inv_ℚ (fractional_part (x r))) (rests_sum x) (fractional_part (x r)) _
        ∙ ap₂ ◌+ℚ◌ (low_sum x) (inverse _ f0_above)
      where
        order : (i e f l : Rational) → i *ℚ neg_ℚ (neg_ℚ e -ℚ f) +ℚ l ≡ (i *ℚ e +ℚ l) +ℚ f *ℚ i
        order i e f l = simp (field, signs)

    high_bound : combined_bound (high_term g.split ∷ high_terms) ≡ cut_sum x +ℚ one_ℚ
    high_bound =
        ap₂ ◌+ℚ◌ (ap₂ ◌*ℚ◌ g.is_split.high (sym (Q.whole-add g.split.at (pos 1)) ∙ ap (λ t. t +ℚ one_ℚ) at_value)) (bounds_sum_at p [] [] (high_weight p b rates x r) x high_uses)
        ∙ order (inv_ℚ (one_ℚ -ℚ fractional_part (x r))) (rests_sum x) (fractional_part (x r)) _
        ∙ ap₂ ◌+ℚ◌ (high_sum x) (inverse _ rest0_above)
      where
        order : (k e f l : Rational) → k *ℚ ((neg_ℚ e -ℚ f) +ℚ one_ℚ) +ℚ l ≡ (neg_ℚ k *ℚ e +ℚ l) +ℚ (one_ℚ -ℚ f) *ℚ k
        order k e f l = simp (field, signs, field_units)

    low_shows : shows (length p.columns) (joined (Some (low_term g.split)) (terms p before [] [] g.split.low_weights)) c.form c.bound ≡ true
    low_shows = side_shows (low_term g.split) g.split.low_weights low_terms
        (ap (terms p before [] []) g.is_split.low_weights ∙ weights_there_at p [] [] (low_weight p b rates x r) x low_uses)
        (below-scaled (length p.columns) (whole (negsuc 0)) g.split.form split_over) (terms_below p [] [] (λ v. nonzero (low_weight p b rates x r v)) over) low_value low_bound

    high_shows : shows (length p.columns) (joined (Some (high_term g.split)) (terms p before [] [] g.split.high_weights)) c.form c.bound ≡ true
    high_shows = side_shows (high_term g.split) g.split.high_weights high_terms
        (ap (terms p before [] []) g.is_split.high_weights ∙ weights_there_at p [] [] (high_weight p b rates x r) x high_uses)
        split_over (terms_below p [] [] (λ v. nonzero (high_weight p b rates x r v)) over) high_value high_bound

    whole_form : is_whole_form p g.split.form ≡ true
    whole_form = ap (is_whole_form p) g.is_split.form ∙ whole_run (split_coefficient p b rates x r) serves 0 (length p.columns)

    proof_passes_split : proof_passes p before c.form c.bound (BySplit g.split) ≡ true
    proof_passes_split = and_from _ _
        (and_from _ _ whole_form (and_from _ _ (Q.true_at_most _ _ (le_by _ _ _ _ refl g.is_split.low low_inverse)) (Q.true_at_most _ _ (le_by _ _ _ _ refl g.is_split.high high_inverse))))
        (and_from _ _ low_shows high_shows)

    pub cut_passes : derived_passes p before c ≡ true
    cut_passes = and_from _ _ (all_in_range (length p.columns) c.form form_over) (ap (proof_passes p before c.form c.bound) g.proof ∙ proof_passes_split)

pub passes : (p : Problem) (b : List Place) (rates x : ℕ → Rational) (r : ℕ) (c : Derived) (before : List Derived) → IsOverColumns p [] [] → IsRowOfBasis p b rates x r → HasCut p b rates x r → IsGomoryCut p b rates x r c → derived_passes p before c ≡ true
passes p b rates x r c before over row h g = cut_passes p b row.dictionary rates x r over row.is_dictionary row.is_point row.are_rates h before c g

pub violated : (p : Problem) (b : List Place) (rates x : ℕ → Rational) (r : ℕ) (c : Derived) → IsOverColumns p [] [] → IsRowOfBasis p b rates x r → HasCut p b rates x r → IsGomoryCut p b rates x r c → value_at x c.form ≡ c.bound -ℚ one_ℚ
violated p b rates x r c over row h g = cut_violated p b row.dictionary rates x r over row.is_dictionary row.is_point row.are_rates h [] c g

pub root_passes : (p : Problem) (c : Derived) (before : List Derived) → IsOverColumns p [] [] → IsRootCut p c → derived_passes p before c ≡ true
root_passes p c before over cut = cut_passes p cut.basis cut.dictionary cut.rates cut.point cut.column over cut.is_optimal.is_dictionary cut.is_optimal.is_point cut.are_rates cut.has_cut before c cut.is_cut
