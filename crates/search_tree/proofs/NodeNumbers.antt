-- Numbers of a node that are its base numbers.
use Rattle.std.proofs.Common.{◌≡◌, ◌∙◌, ℕ, zero, suc, ◌+◌, ◌==◌, List, [], ◌∷◌, length, slice_get, Bool, true, false, Option, Some, None, Ok, refl, ap}
use Rattle.std.specs.Prelude.{option_map, option_and_then, if◌then◌else◌}
use Rattle.std.proofs.lemmas.Option.{slice_get_within}
use Rattle.rational.specs.Rational.{Rational, zero_ℚ, one_ℚ, whole}
use Rattle.milp.specs.Form.{Entry, number_at}
use Rattle.milp.specs.Problem.{Column, Row, Problem}
use Rattle.rational.specs.Compare.{is_less}
use Rattle.verdicts.specs.Certificate.{Side, Low, High, Derived}
use Rattle.verdicts.specs.Proves.{bound_used, lower_under, upper_under, side_form, side_bound, way_get}
use Rattle.basis.specs.Node.{system_of}
use Rattle.basis.specs.Numbers.{base_number, left_base, IsGivenNumber, IsRunBase, IsProblemNumber, IsNodeBase, node_numbers, AllOf}
use Rattle.basis.proofs.Laws.{row_form, derived_form, row-lower, row-upper, derived-lower}
use Rattle.cert_check.specs.Sums.{next_answer, taken_bound}
use Rattle.search_tree.proofs.FaultsTold.{Told, next_told, add_told}

by_used : (P : Rational → Type 0) (w : Rational) (lower upper : Option Rational) (b : Rational) → (lower ≡ Some b → P b) → (upper ≡ Some b → P b) → bound_used w lower upper ≡ Some b → P b
by_used P w lower upper b h k = go (is_less zero_ℚ w)
  where
    go : (t : Bool) → (if t then lower else upper) ≡ Some b → P b
    go true e = h e
    go false e = k e

-- the place at which a side stands in the list
pub way_place : (sides : List Side) (i : ℕ) (s : Side) → way_get sides i ≡ Some s → (k : ℕ) × (slice_get sides k ≡ Some s)
way_place [] i s e = cc
way_place (t ∷ rest) i s e = go (i == length rest) (λ h. way_place rest i s h) e
  where
    go : (b : Bool) → (way_get rest i ≡ Some s → (k : ℕ) × (slice_get rest k ≡ Some s)) → (if b then Some t else way_get rest i) ≡ Some s → (k : ℕ) × (slice_get (t ∷ rest) k ≡ Some s)
    go true f h = (0, h)
    go false f h = let later = f h in (suc later.0, later.1)

module _ (p : Problem) (ds : List Derived) (sides : List Side) where
  abbrev pub IsBase : Rational → Type 0
  IsBase a = IsNodeBase p ds sides a

  pub zero_base : IsNodeBase p ds sides zero_ℚ
  zero_base = IsNodeBase.of_run (IsRunBase.zero_number refl)

  pub one_base : IsNodeBase p ds sides one_ℚ
  one_base = IsNodeBase.of_run (IsRunBase.one_number refl)

  pub constant_base : IsNodeBase p ds sides p.constant
  constant_base = IsNodeBase.of_problem (IsProblemNumber.of_constant refl)

  -- ---- forms

  -- all coefficients are base numbers
  abbrev pub AreCoefficients : List Entry → Type 0
  AreCoefficients [] = Unit {0}
  AreCoefficients (e ∷ es) = IsNodeBase p ds sides e.coefficient × AreCoefficients es

  from_places : (es : List Entry) → ((k : ℕ) (e : Entry) → slice_get es k ≡ Some e → IsNodeBase p ds sides e.coefficient) → AreCoefficients es
  from_places [] h = tt
  from_places (e ∷ es) h = (h 0 e refl, from_places es (λ k f at. h (suc k) f at))

  pub row_coefficients : (i : ℕ) (r : Row) → slice_get p.rows i ≡ Some r → AreCoefficients r.entries
  row_coefficients i r at =
      let form : slice_get ((system_of p ds sides).forms) i ≡ Some r.entries = row_form p ds sides i (slice_get_within p.rows i r at) ∙ ap (option_map (λ (r : Row). r.entries)) at in
      from_places r.entries (λ k e here. IsNodeBase.of_run (IsRunBase.given (IsGivenNumber.of_form i r.entries k e form here refl)))

  pub derived_coefficients : (i : ℕ) (d : Derived) → slice_get ds i ≡ Some d → AreCoefficients d.form
  derived_coefficients i d at =
      let form : slice_get ((system_of p ds sides).forms) (length p.rows + i) ≡ Some d.form = derived_form p ds sides i ∙ ap (option_map (λ (d : Derived). d.form)) at in
      from_places d.form (λ k e here. IsNodeBase.of_run (IsRunBase.given (IsGivenNumber.of_form (length p.rows + i) d.form k e form here refl)))

  pub objective_coefficients : AreCoefficients p.objective
  objective_coefficients = from_places p.objective (λ k e here. IsNodeBase.of_problem (IsProblemNumber.of_objective k e here refl))

  -- ---- bounds

  pub row_bound_base : (i : ℕ) (r : Row) (w b : Rational) → slice_get p.rows i ≡ Some r → bound_used w r.lower r.upper ≡ Some b → IsNodeBase p ds sides b
  row_bound_base i r w b at e =
      let inside = slice_get_within p.rows i r at in
      by_used (IsNodeBase p ds sides) w r.lower r.upper b
      (λ h. IsNodeBase.of_run (IsRunBase.given (IsGivenNumber.of_lower (length p.columns + i) (row-lower p ds sides i r inside at ∙ h))))
      (λ h. IsNodeBase.of_run (IsRunBase.given (IsGivenNumber.of_upper (length p.columns + i) (row-upper p ds sides i r inside at ∙ h))))
      e

  pub derived_bound_base : (i : ℕ) (d : Derived) → slice_get ds i ≡ Some d → IsNodeBase p ds sides d.bound
  derived_bound_base i d at = IsNodeBase.of_run (IsRunBase.given (IsGivenNumber.of_lower (length p.columns + length p.rows + i) (derived-lower p ds sides i d at)))

  own_lower : (j : ℕ) (b : Rational) → lower_under p [] j ≡ Some b → IsNodeBase p ds sides b
  own_lower j b e = go (slice_get p.columns j) refl e
    where
      go : (o : Option Column) → slice_get p.columns j ≡ o → option_and_then (λ (c : Column). c.lower) o ≡ Some b → IsNodeBase p ds sides b
      go None k e = absurd cc
      go (Some c) k e = IsNodeBase.of_problem (IsProblemNumber.of_column_lower j c k e)

  own_upper : (j : ℕ) (b : Rational) → upper_under p [] j ≡ Some b → IsNodeBase p ds sides b
  own_upper j b e = go (slice_get p.columns j) refl e
    where
      go : (o : Option Column) → slice_get p.columns j ≡ o → option_and_then (λ (c : Column). c.upper) o ≡ Some b → IsNodeBase p ds sides b
      go None k e = absurd cc
      go (Some c) k e = IsNodeBase.of_problem (IsProblemNumber.of_column_upper j c k e)

  pub column_bound_base : (j : ℕ) (w b : Rational) → bound_used w (lower_under p [] j) (upper_under p [] j) ≡ Some b → IsNodeBase p ds sides b
  column_bound_base j w b e = by_used (IsNodeBase p ds sides) w (lower_under p [] j) (upper_under p [] j) b (own_lower j b) (own_upper j b) e

  -- ---- splits on the way

  pub side_coefficients : (i : ℕ) (s : Side) → way_get sides i ≡ Some s → AreCoefficients (side_form s)
  side_coefficients i s at =
      let place = way_place sides i s at in
      from_places (side_form s) (λ k e here. IsNodeBase.of_problem (IsProblemNumber.of_side_form place.0 s k e place.1 here refl))

  pub side_bound_base : (i : ℕ) (s : Side) → way_get sides i ≡ Some s → IsNodeBase p ds sides (side_bound s)
  side_bound_base i s at = let place = way_place sides i s at in IsNodeBase.of_problem (IsProblemNumber.of_side_bound place.0 s place.1 refl)

  -- the bound of a high side is found as the sum of the split's number and 1
  pub side_told : (i : ℕ) (s : Side) → way_get sides i ≡ Some s → Told (node_numbers p ds sides) (taken_bound s)
  side_told i (Low s) at = tt
  side_told i (High s) at =
      let place = way_place sides i (High s) at in
      next_told (node_numbers p ds sides) (next_answer s.at) (λ b. Ok (Some b))
      (add_told (node_numbers p ds sides) (whole s.at) one_ℚ (left_base (IsNodeBase.of_problem (IsProblemNumber.of_split place.0 (High s) place.1 refl)) (base_number one_base))) (λ b. tt)

  -- ---- points

  pub number_base : (x : List Rational) → AllOf (IsNodeBase p ds sides) x → (j : ℕ) → IsNodeBase p ds sides (number_at x j)
  number_base [] h j = zero_base
  number_base (v ∷ x) h zero = h.0
  number_base (v ∷ x) h (suc j) = number_base x h.1 j
