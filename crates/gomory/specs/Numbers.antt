-- The numbers of a cut by variable.
use Rattle.std.specs.Prelude.{ℕ, List}
use Rattle.rational.specs.Rational.{Rational, one_ℚ, inv_ℚ, ◌+ℚ◌, ◌-ℚ◌, ◌*ℚ◌, ◌/ℚ◌}
use Rattle.milp.specs.Problem.{Problem}
use Rattle.verdicts.specs.WeightedSums.{coefficient_of}
use Rattle.basis.specs.System.{unit_form}
use Rattle.basis.specs.Dictionary.{place_of}
use Rattle.basis.specs.declared.Place.{Place}
use Rattle.gomory.specs.Cuts.{distance_sign, distance_coefficient, fractional_part, is_whole_column, cut_coefficient, remainder}
use Rattle.gomory.specs.declared.scale.Scale.{Scale}
use Rattle.gomory.specs.declared.numbers.RowVariable.{RowVariable}
use Rattle.gomory.specs.declared.numbers.Role.{Role}
use Rattle.gomory.specs.declared.numbers.Role.TheVariants.{OfCut, OfLow, OfHigh, OfSplit}

abbrev pub scale_at : Rational → Scale
scale_at f = record { part = f; low = inv_ℚ f; high = inv_ℚ (one_ℚ -ℚ f) }

abbrev pub variable_at : Problem → List Place → (ℕ → Rational) → (ℕ → Rational) → ℕ → RowVariable
variable_at p b rates x v = record { place = place_of b v; whole = is_whole_column p x v; coefficient = distance_coefficient b rates v }

-- the weight of the variable in the cut or on a side, or its coefficient in the form of the split of the row of r
abbrev pub number_at_variable : Rational → ℕ → ℕ → RowVariable → Role → Rational
number_at_variable f r v at OfCut = distance_sign at.place *ℚ cut_coefficient f at.whole at.coefficient
number_at_variable f r v at OfLow = distance_sign at.place *ℚ (cut_coefficient f at.whole at.coefficient -ℚ remainder f at.whole at.coefficient /ℚ f)
number_at_variable f r v at OfHigh = distance_sign at.place *ℚ (cut_coefficient f at.whole at.coefficient +ℚ remainder f at.whole at.coefficient /ℚ (one_ℚ -ℚ f))
number_at_variable f r v at OfSplit = coefficient_of (unit_form r) v +ℚ distance_sign at.place *ℚ (at.coefficient -ℚ remainder f at.whole at.coefficient)

-- cut_weight, low_weight, high_weight or split_coefficient
abbrev pub number_of : Problem → List Place → (ℕ → Rational) → (ℕ → Rational) → ℕ → Role → ℕ → Rational
number_of p b rates x r role v = number_at_variable (fractional_part (x r)) r v (variable_at p b rates x v) role
