-- What is asked of the parts of a row's whole form.
use Rattle.std.specs.Prelude.{ℕ, ◌≡◌, pos, ◌&&◌, Bool, true, List, [], ◌∷◌, ◌++◌, slice_get, Option, Some, Err}
use Rattle.rational.specs.Rational.{Rational, whole, ◌/ℚ◌}
use Rattle.rational.specs.Denominators.{common_denominator}
use Rattle.milp.specs.Form.{Entry}
use Rattle.milp.specs.Problem.{Problem}
use Rattle.verdicts.specs.Proves.{is_integer}
use Rattle.fraction.specs.Answers.{mul_answer, div_answer}
use Rattle.fraction.specs.Denominators.{IsDenominatorFault}
use Rattle.fraction.specs.declared.frac.NoFit.{NoFit}
use Rattle.row_columns.specs.RowForms.{common_numerator, IsScalingFault, IsRowForm, with_form}

-- the form's columns are integer
abbrev pub are_on_integers : Problem → List Entry → Bool
are_on_integers p [] = true
are_on_integers p (e ∷ es) = is_integer (slice_get p.columns e.column) && are_on_integers p es

-- the least common denominator of the numbers over the greatest common divisor of their numerators
abbrev pub scale_between : List Rational → Rational
scale_between numbers = whole (pos (common_denominator 1 numbers)) /ℚ whole (pos (common_numerator 0 numbers))

-- a sum on the way to the least common denominator does not fit, or the quotient
pub data IsScaleFault (numbers : List Rational) (e : NoFit) : Type 0 where
  of_denominator : IsDenominatorFault numbers e → IsScaleFault numbers e
  of_quotient : div_answer (whole (pos (common_denominator 1 numbers))) (whole (pos (common_numerator 0 numbers))) ≡ Err e → IsScaleFault numbers e

-- the product with an entry's coefficient does not fit
pub record IsUnfitProduct (by : Rational) (form : List Entry) : Type 0 where
  pub place : ℕ
  pub entry : Entry
  pub is_entry : slice_get form place ≡ Some entry
  pub fault : NoFit
  pub unfit : mul_answer by entry.coefficient ≡ Err fault

-- an operation of the scaling does not fit
pub record IsUnfitForm (form : List Entry) : Type 0 where
  pub fault : NoFit
  pub unfit : IsScalingFault form fault

-- the whole form of a row with these entries stands behind the old forms, if it has one
pub record IsFormAdded (p : Problem) (form : List Entry) (old new : List (List Entry)) : Type 0 where
  pub made : Option (List Entry)
  pub is_form : IsRowForm p form made
  pub added : new ≡ old ++ with_form made []
