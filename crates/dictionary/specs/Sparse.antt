-- Rows as their entries alone, in ascending order of column.
use Rattle.std.specs.Prelude.{ℕ, negsuc, ◌+◌, ◌==◌, ◌≡◌, cond, if◌then◌else◌, List, [], ◌∷◌, ◌++◌, slice_get, Some}
use Rattle.rational.specs.Rational.{Rational, whole, neg_ℚ, ◌+ℚ◌, ◌*ℚ◌, ◌/ℚ◌}
use Rattle.rational.specs.Compare.{is_zero}
use Rattle.milp.specs.Form.{Entry}
use Rattle.verdicts.specs.WeightedSums.{AllBelow, coefficient_of}
use Rattle.basis.specs.Weights.{numbers_from}
use Rattle.fraction.specs.declared.frac.NoFit.{NoFit}
use Rattle.dictionary.specs.Ascending.{IsAscending}
use Rattle.dictionary.specs.Rows.{IsProductOrSum}

-- the row that the entries are: the coefficients of the columns below `width`
abbrev pub numbers_of : ℕ → List Entry → List Rational
numbers_of width form = numbers_from 0 width (coefficient_of form)

-- the entry, unless its coefficient is 0
abbrev pub entry_unless_zero : Entry → List Entry
entry_unless_zero e = if is_zero e.coefficient then [] else e ∷ []

-- what is divided where a row is solved for the column `at`
abbrev pub dividend_of : ℕ → Entry → Rational
dividend_of at e = cond (e.column == at) (whole (negsuc 0)) e.coefficient

-- the entry of a row that is solved for the column `at`, where its coefficient there is k
abbrev pub solved_entry : ℕ → Rational → Entry → Entry
solved_entry at k e = record { column = e.column; coefficient = neg_ℚ (dividend_of at e /ℚ k) }

-- `done`, before the entry's column and in it, and `rest`, behind it, are `old` plus `factor` times the entry
pub record IsAdded (old : List Entry) (factor : Rational) (entry : Entry) (done rest : List Entry) : Type 0 where
  pub ascending : IsAscending 0 (done ++ rest)
  pub done_below : AllBelow (entry.column + 1) done
  pub below : (n : ℕ) → AllBelow n (entry ∷ old) → AllBelow n (done ++ rest)
  pub numbers : (j : ℕ) → coefficient_of (done ++ rest) j ≡ coefficient_of old j +ℚ factor *ℚ coefficient_of (entry ∷ []) j

-- `new` is `old` plus `factor` times `added`
pub record IsMerged (old : List Entry) (factor : Rational) (added new : List Entry) : Type 0 where
  pub ascending : IsAscending 0 new
  pub below : (n : ℕ) → AllBelow n old → AllBelow n added → AllBelow n new
  pub numbers : (j : ℕ) → coefficient_of new j ≡ coefficient_of old j +ℚ factor *ℚ coefficient_of added j

-- e is a product or a sum of these that does not fit
pub record IsMergeFault (old : List Entry) (factor : Rational) (added : List Entry) (e : NoFit) : Type 0 where
  pub index : ℕ
  pub entry : Entry
  pub is_entry : slice_get added index ≡ Some entry
  pub fault : IsProductOrSum factor entry.coefficient (coefficient_of old entry.column) e
