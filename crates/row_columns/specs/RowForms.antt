-- The whole form of a row on integer columns: a multiple of the row's form whose coefficients are whole and have no common factor.
use Rattle.std.specs.Prelude.{ℕ, pos, unsigned_abs, ◌≡◌, ◌≢◌, true, false, List, [], ◌∷◌, map, Option, Some, None, slice_get, Err}
use Rattle.integer.specs.Gcd.{gcd}
use Rattle.rational.specs.Rational.{Rational, whole, ◌/ℚ◌}
use Rattle.rational.specs.Denominators.{common_denominator}
use Rattle.milp.specs.Form.{Entry}
use Rattle.milp.specs.Problem.{Row, Problem}
use Rattle.verdicts.specs.WeightedSums.{scaled}
use Rattle.verdicts.specs.Proves.{is_whole_form}
use Rattle.fraction.specs.Answers.{mul_answer, div_answer}
use Rattle.fraction.specs.Denominators.{IsDenominatorFault}
use Rattle.fraction.specs.declared.frac.NoFit.{NoFit}

abbrev pub coefficients : List Entry → List Rational
coefficients form = map (λ (e : Entry). e.coefficient) form

-- the greatest common divisor of m and the numerators of the numbers
abbrev pub common_numerator : ℕ → List Rational → ℕ
common_numerator m [] = m
common_numerator m (a ∷ rest) = common_numerator (gcd m (unsigned_abs a.numerator)) rest

-- the least common denominator of the coefficients, and the greatest common divisor of their numerators
abbrev pub denominator_of : List Entry → Rational
denominator_of form = whole (pos (common_denominator 1 (coefficients form)))

abbrev pub numerator_of : List Entry → Rational
numerator_of form = whole (pos (common_numerator 0 (coefficients form)))

-- the number whose product with each coefficient is whole, so that these products have no common factor
abbrev pub scale_of : List Entry → Rational
scale_of form = denominator_of form /ℚ numerator_of form

abbrev pub scaled_form : List Entry → List Entry
scaled_form form = scaled (scale_of form) form

-- an operation of the scaling does not fit: a sum on the way to the common denominator, the scale, or a product
pub data IsScalingFault (form : List Entry) (e : NoFit) : Type 0 where
  of_denominator : IsDenominatorFault (coefficients form) e → IsScalingFault form e
  of_scale : div_answer (denominator_of form) (numerator_of form) ≡ Err e → IsScalingFault form e
  of_product : (i : ℕ) (entry : Entry) → slice_get form i ≡ Some entry → mul_answer (scale_of form) entry.coefficient ≡ Err e → IsScalingFault form e

-- the row has no whole form: it has no entries, its scaled form isn't whole on integer columns alone, or that doesn't fit
pub data HasNoForm (p : Problem) (form : List Entry) : Type 0 where
  empty : form ≡ [] → HasNoForm p form
  not_whole : is_whole_form p (scaled_form form) ≡ false → HasNoForm p form
  not_fitting : (e : NoFit) → IsScalingFault form e → HasNoForm p form

-- the whole form of a row with these entries, if it has one
abbrev pub IsRowForm : Problem → List Entry → Option (List Entry) → Type 0
IsRowForm p form None = HasNoForm p form
IsRowForm p form (Some made) = (form ≢ []) × (made ≡ scaled_form form) × (is_whole_form p made ≡ true)

abbrev pub with_form : Option (List Entry) → List (List Entry) → List (List Entry)
with_form None forms = forms
with_form (Some form) forms = form ∷ forms

-- the whole forms of these rows, in order
abbrev pub AreRowForms : Problem → List Row → List (List Entry) → Type 0
AreRowForms p [] forms = forms ≡ []
AreRowForms p (r ∷ rows) forms = (made : Option (List Entry)) × IsRowForm p r.entries made × (rest : List (List Entry)) × AreRowForms p rows rest × (forms ≡ with_form made rest)
