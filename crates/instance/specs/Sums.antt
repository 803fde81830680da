-- The values of forms at points, the test of a point, and where a sum first does not fit.
use Rattle.std.specs.Prelude.{Bool, true, false, ◌&&◌, cond, List, [], ◌∷◌, Option, None, Some, Result, Ok, Err}
use Rattle.rational.specs.Rational.{Rational, zero_ℚ}
use Rattle.milp.specs.Form.{Entry, number_at}
use Rattle.milp.specs.Problem.{Row, Problem}
use Rattle.fraction.specs.declared.frac.NoFit.{NoFit}
use Rattle.fraction.specs.Answers.{add_answer, mul_answer}
use Rattle.verdicts.specs.Proves.{lies_above, lies_below, meets_columns}

abbrev pub and_then : {A B : Type 0} → Result A NoFit → (A → Result B NoFit) → Result B NoFit
and_then (Ok x) f = f x
and_then (Err e) f = Err e

-- a total plus an entry's product, or the product or sum that does not fit
abbrev pub step_answer : List Rational → Rational → Entry → Result Rational NoFit
step_answer x total e = and_then (mul_answer e.coefficient (number_at x e.column)) (λ p. add_answer total p)

-- a total plus the entries' products from the first on, or the first product or sum that does not fit
abbrev pub sum_answer : List Rational → Rational → List Entry → Result Rational NoFit
sum_answer x total [] = Ok total
sum_answer x total (e ∷ es) = and_then (step_answer x total e) (λ s. sum_answer x s es)

-- a row's form, if there is a row
abbrev pub form_of : Option Row → List Entry
form_of None = []
form_of (Some r) = r.entries

-- the objective's form summed, and then its constant
abbrev pub value_answer : Problem → List Rational → Result Rational NoFit
value_answer p x = and_then (sum_answer x zero_ℚ p.objective) (λ v. add_answer v p.constant)

-- the rows are met, summed in order up to the first that is not
abbrev pub rows_answer : List Rational → List Row → Result Bool NoFit
rows_answer x [] = Ok true
rows_answer x (r ∷ rs) = and_then (sum_answer x zero_ℚ r.entries) (λ v. cond (lies_above r.lower v && lies_below r.upper v) (rows_answer x rs) (Ok false))

-- the columns are met, and then the rows
abbrev pub meets_answer : Problem → List Rational → Result Bool NoFit
meets_answer p x = cond (meets_columns false p.columns x) (rows_answer x p.rows) (Ok false)
