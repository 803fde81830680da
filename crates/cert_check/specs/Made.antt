-- The form that weights make.
use Rattle.std.specs.Prelude.{ℕ, List, [], ◌∷◌, ◌++◌, slice_get}
use Rattle.rational.specs.Rational.{one_ℚ}
use Rattle.milp.specs.Form.{Entry}
use Rattle.verdicts.specs.Certificate.{Item, Weights}
use Rattle.verdicts.specs.WeightedSums.{scaled}
use Rattle.cert_check.specs.Setting.{Setting}
use Rattle.instance.specs.Sums.{form_of}
use Rattle.cert_check.specs.Sums.{derived_form}

-- each weight times its form
abbrev pub of_items : (ℕ → List Entry) → List Item → List Entry
of_items f [] = []
of_items f (i ∷ is) = scaled i.weight (f i.index) ++ of_items f is

abbrev pub row_forms : Setting → ℕ → List Entry
row_forms s i = form_of (slice_get s.problem.rows i)

abbrev pub column_forms : ℕ → List Entry
column_forms j = record { column = j; coefficient = one_ℚ } ∷ []

abbrev pub derived_forms : Setting → ℕ → List Entry
derived_forms s k = derived_form (slice_get s.derived k)

-- the rows, columns and derived rows that the weights name, each times its weight
abbrev pub made_form : Setting → Weights → List Entry
made_form s w = of_items (row_forms s) w.rows ++ (of_items column_forms w.columns ++ of_items (derived_forms s) w.derived)
