-- The numbers of a table that are weights.
use Rattle.std.specs.Prelude.{ℕ, List}
use Rattle.rational.specs.Rational.{Rational, neg_ℚ}
use Rattle.basis.specs.Dictionary.{IsBasic, gain_of}
use Rattle.basis.specs.Weights.{nonzero, row_weight}
use Rattle.basis.specs.declared.Place.{Place}
use Rattle.dictionary.specs.Table.{Table, dictionary_of}
use Rattle.simplex.specs.declared.weights.Source.{Source}
use Rattle.simplex.specs.declared.weights.Source.TheVariants.{Objective, Row, MinusRow}

-- the row is that of a basic variable
abbrev pub IsFromBasic : List Place → Source → Type 0
IsFromBasic b Objective = Unit {0}
IsFromBasic b (Row r) = IsBasic b r
IsFromBasic b (MinusRow r) = IsBasic b r

-- the number at the variable v
abbrev pub weight_from : Table → Source → ℕ → Rational
weight_from t Objective v = gain_of (dictionary_of t) v
weight_from t (Row r) v = row_weight (dictionary_of t) r v
weight_from t (MinusRow r) v = neg_ℚ (row_weight (dictionary_of t) r v)

-- as a weight, where it is not 0
abbrev pub weights_from : Table → Source → ℕ → List Rational
weights_from t source v = nonzero (weight_from t source v)
