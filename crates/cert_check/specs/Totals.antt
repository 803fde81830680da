-- What weights add up to at each column, form by form: a list with a total for each column.
use Rattle.std.specs.Prelude.{ℕ, ◌≡◌, ◌<◌, nat_lt, List, [], ◌∷◌, length, get_or, set, Result, Ok, if◌then◌else◌}
use Rattle.rational.specs.Rational.{Rational, zero_ℚ}
use Rattle.milp.specs.Form.{Entry}
use Rattle.fraction.specs.declared.frac.NoFit.{NoFit}
use Rattle.instance.specs.Sums.{and_then}
use Rattle.verdicts.specs.Certificate.{Item, Weights}
use Rattle.cert_check.specs.Setting.{Setting}
use Rattle.cert_check.specs.declared.kind.Kind.TheVariants.{OfRow, OfColumn, OfDerived, OfSplit}
use Rattle.cert_check.specs.Sums.{Product, form_at, with_product, with_products}

-- the totals with a weight times a factor more at column j; nothing more past the last column
abbrev pub with_factor : Rational → ℕ → Rational → List Rational → Result (List Rational) NoFit
with_factor w j c totals = if nat_lt j (length totals) then and_then (with_product (get_or totals j zero_ℚ) w c) (λ t. Ok (set totals j t)) else Ok totals

-- with a weight times each coefficient of a form
abbrev pub with_form : Rational → List Entry → List Rational → Result (List Rational) NoFit
with_form w [] totals = Ok totals
with_form w (e ∷ es) totals = and_then (with_factor w e.column e.coefficient totals) (λ more. with_form w es more)

-- with each weight times the coefficients of its form
abbrev pub with_forms : (ℕ → List Entry) → List Item → List Rational → Result (List Rational) NoFit
with_forms f [] totals = Ok totals
with_forms f (i ∷ is) totals = and_then (with_form i.weight (f i.index) totals) (λ more. with_forms f is more)

-- with those of all weights
abbrev pub with_weights : Setting → Weights → List Rational → Result (List Rational) NoFit
with_weights s w totals = and_then (with_forms (form_at s OfRow) w.rows totals) (λ r. and_then (with_forms (form_at s OfColumn) w.columns r) (λ c. and_then (with_forms (form_at s OfDerived) w.derived c) (λ d. with_forms (form_at s OfSplit) w.splits d)))

-- the sum of each column's products, of so many columns
abbrev pub AreTotals : ℕ → (ℕ → List Product) → List Rational → Type 0
AreTotals n f totals = (length totals ≡ n) × ((j : ℕ) → j < n → with_products zero_ℚ (f j) ≡ Ok (get_or totals j zero_ℚ))
