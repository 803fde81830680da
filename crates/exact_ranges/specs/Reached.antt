-- The forms of the bounds that a point reaches, list by list.
use Rattle.std.specs.Prelude.{ℕ, ◌+◌, negsuc, Bool, false, List, [], ◌∷◌, ◌++◌, Option, Some, None, IsTrue, if◌then◌else◌}
use Rattle.std.specs.List.{AllByRecursion}
use Rattle.rational.specs.Rational.{Rational, one_ℚ, whole}
use Rattle.rational.specs.Compare.{is_same}
use Rattle.milp.specs.Form.{Entry, sum_at}
use Rattle.milp.specs.Problem.{Column, Row, Problem}
use Rattle.verdicts.specs.WeightedSums.{scaled}
use Rattle.cert_check.specs.Parts.{ascending}

-- the bound is there, and the value reaches it
abbrev pub does_reach : Option Rational → Rational → Bool
does_reach None v = false
does_reach (Some b) v = is_same b v

-- the form, where the value reaches the bound
abbrev pub if_reached : Option Rational → Rational → List Entry → List (List Entry)
if_reached bound v form = if does_reach bound v then form ∷ [] else []

-- a lower bound by its form, an upper one by the form negated
abbrev pub reached_by : Rational → List Entry → Option Rational → Option Rational → List (List Entry)
reached_by v form lower upper = if_reached lower v form ++ if_reached upper v (scaled (whole (negsuc 0)) form)

abbrev pub unit_form : ℕ → List Entry
unit_form j = record { column = j; coefficient = one_ℚ } ∷ []

-- of the columns from place j on
abbrev pub reached_columns : List Rational → ℕ → List Column → List (List Entry)
reached_columns x j [] = []
reached_columns x j (c ∷ cs) = reached_by (sum_at x (unit_form j)) (unit_form j) c.lower c.upper ++ reached_columns x (j + 1) cs

abbrev pub reached_rows : List Rational → List Row → List (List Entry)
reached_rows x [] = []
reached_rows x (r ∷ rs) = reached_by (sum_at x r.entries) r.entries r.lower r.upper ++ reached_rows x rs

abbrev pub reached : Problem → List Rational → List (List Entry)
reached p x = reached_columns x 0 p.columns ++ reached_rows x p.rows

-- each form is in order of column
abbrev pub AllAscend : List (List Entry) → Type 0
AllAscend fs = AllByRecursion (λ f. IsTrue (ascending 0 f)) fs
