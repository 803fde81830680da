-- What weights add up to, in the order of the items: the bounds that they use, their sum R, and the coefficients of F; or
-- the first operation on the way that does not fit.
use Rattle.std.specs.Prelude.{ℕ, ℤ, neg_ℤ, ◌+◌, ◌==◌, List, [], ◌∷◌, ◌++◌, Bool, true, false, cond, Option, None, Some, Result, Ok, Err, slice_get, if◌then◌else◌}
use Rattle.rational.specs.Rational.{Rational, zero_ℚ, one_ℚ, whole}
use Rattle.milp.specs.Form.{Entry}
use Rattle.milp.specs.Problem.{Column, Row, Problem}
use Rattle.fraction.specs.declared.frac.NoFit.{NoFit}
use Rattle.fraction.specs.Answers.{add_answer, mul_answer}
use Rattle.instance.specs.Sums.{and_then, form_of}
use Rattle.rational.specs.Compare.{is_less, is_same}
use Rattle.verdicts.specs.Certificate.{Item, Weights, Side, Low, High, Derived}
use Rattle.verdicts.specs.Proves.{narrows, lower_under, upper_under, greater, side_form, way_get, bound_used, narrowed, taken}
use Rattle.cert_check.specs.Setting.{Setting}
use Rattle.cert_check.specs.declared.kind.Kind.{Kind}
use Rattle.cert_check.specs.declared.kind.Kind.TheVariants.{OfRow, OfColumn, OfDerived, OfSplit}

-- a test, and where it holds the next one
abbrev pub and_also : Result Bool NoFit → Result Bool NoFit → Result Bool NoFit
and_also (Err e) rest = Err e
and_also (Ok false) rest = Ok false
and_also (Ok true) rest = rest

-- a total plus a product
abbrev pub with_product : Rational → Rational → Rational → Result Rational NoFit
with_product total a b = and_then (mul_answer a b) (λ p. add_answer total p)

-- ---- bounds

-- at + 1
abbrev pub next_answer : ℤ → Result Rational NoFit
next_answer at = add_answer (whole at) one_ℚ

-- the lower bound of a column under the splits on the way
abbrev pub lower_answer : Problem → List Side → ℕ → Result (Option Rational) NoFit
lower_answer p [] j = Ok (lower_under p [] j)
lower_answer p (Low s ∷ sides) j = lower_answer p sides j
lower_answer p (High s ∷ sides) j = if narrows s j then and_then (next_answer s.at) (λ b. and_then (lower_answer p sides j) (λ o. Ok (Some (greater o b)))) else lower_answer p sides j

abbrev pub row_bound : Rational → Option Row → Option Rational
row_bound w None = None
row_bound w (Some r) = bound_used w r.lower r.upper

abbrev pub derived_bound : Rational → Option Derived → Option Rational
derived_bound w None = None
derived_bound w (Some d) = if is_less zero_ℚ w then Some d.bound else None

-- the bound of the side taken of a split
abbrev pub taken_bound : Side → Result (Option Rational) NoFit
taken_bound (Low s) = Ok (Some (whole (neg_ℤ s.at)))
taken_bound (High s) = and_then (next_answer s.at) (λ b. Ok (Some b))

abbrev pub split_bound : Rational → Option Side → Result (Option Rational) NoFit
split_bound w None = Ok None
split_bound w (Some s) = if is_less zero_ℚ w then taken_bound s else Ok None

-- the bound that a weight uses: none where the index is out of range, the bound is missing, or the weight of a derived row or of
-- a split is not positive
abbrev pub bound_of : Setting → Kind → Item → Result (Option Rational) NoFit
bound_of s OfRow i = Ok (row_bound i.weight (slice_get s.problem.rows i.index))
bound_of s OfColumn i = if is_less zero_ℚ i.weight then lower_answer s.problem (narrowed s.version s.sides) i.index else Ok (upper_under s.problem (narrowed s.version s.sides) i.index)
bound_of s OfDerived i = Ok (derived_bound i.weight (slice_get s.derived i.index))
bound_of s OfSplit i = split_bound i.weight (way_get (taken s.version s.sides) i.index)

abbrev pub then_there : Option Rational → Result Bool NoFit → Result Bool NoFit
then_there None rest = Ok false
then_there (Some b) rest = rest

-- each item's bound is there
abbrev pub are_there : (Item → Result (Option Rational) NoFit) → List Item → Result Bool NoFit
are_there f [] = Ok true
are_there f (i ∷ is) = and_then (f i) (λ o. then_there o (are_there f is))

abbrev pub all_there : Setting → Weights → Result Bool NoFit
all_there s w = and_also (are_there (bound_of s OfRow) w.rows) (and_also (are_there (bound_of s OfColumn) w.columns) (and_also (are_there (bound_of s OfDerived) w.derived) (are_there (bound_of s OfSplit) w.splits)))

-- ---- R

abbrev pub with_bound : Rational → Rational → Option Rational → Result Rational NoFit
with_bound total w None = Ok total
with_bound total w (Some b) = with_product total w b

-- a total plus each weight times its bound
abbrev pub with_bounds : (Item → Result (Option Rational) NoFit) → Rational → List Item → Result Rational NoFit
with_bounds f total [] = Ok total
with_bounds f total (i ∷ is) = and_then (f i) (λ o. and_then (with_bound total i.weight o) (λ t. with_bounds f t is))

-- R: the sum of weight times bound, from a total on
abbrev pub bound_sum : Setting → Rational → Weights → Result Rational NoFit
bound_sum s total w = and_then (with_bounds (bound_of s OfRow) total w.rows) (λ r. and_then (with_bounds (bound_of s OfColumn) r w.columns) (λ c. and_then (with_bounds (bound_of s OfDerived) c w.derived) (λ d. with_bounds (bound_of s OfSplit) d w.splits)))

-- ---- F

pub record Product : Type 0 where
  pub weight : Rational
  pub factor : Rational

-- a weight times the coefficients of column j in a form
abbrev pub products : Rational → List Entry → ℕ → List Product
products w [] j = []
products w (e ∷ es) j = if e.column == j then record { weight = w; factor = e.coefficient } ∷ products w es j else products w es j

abbrev pub derived_form : Option Derived → List Entry
derived_form None = []
derived_form (Some d) = d.form

abbrev pub taken_form : Option Side → List Entry
taken_form None = []
taken_form (Some s) = side_form s

-- the form that an index names
abbrev pub form_at : Setting → Kind → ℕ → List Entry
form_at s OfRow i = form_of (slice_get s.problem.rows i)
form_at s OfColumn i = record { column = i; coefficient = one_ℚ } ∷ []
form_at s OfDerived i = derived_form (slice_get s.derived i)
form_at s OfSplit i = taken_form (way_get (taken s.version s.sides) i)

-- each weight times the coefficients of column j in its form
abbrev pub item_products : (ℕ → List Entry) → List Item → ℕ → List Product
item_products f [] j = []
item_products f (i ∷ is) j = products i.weight (f i.index) j ++ item_products f is j

abbrev pub weight_products : Setting → Weights → ℕ → List Product
weight_products s w j = item_products (form_at s OfRow) w.rows j ++ (item_products (form_at s OfColumn) w.columns j ++ (item_products (form_at s OfDerived) w.derived j ++ item_products (form_at s OfSplit) w.splits j))

-- a total plus each product
abbrev pub with_products : Rational → List Product → Result Rational NoFit
with_products total [] = Ok total
with_products total (p ∷ ps) = and_then (with_product total p.weight p.factor) (λ t. with_products t ps)

-- the sum of a column's products is the coefficient that is wanted there, for each column from the j-th on
abbrev pub are_forms : (ℕ → List Product) → (ℕ → Rational) → ℕ → List Column → Result Bool NoFit
are_forms f wanted j [] = Ok true
are_forms f wanted j (c ∷ cs) = and_then (with_products zero_ℚ (f j)) (λ v. cond (is_same v (wanted j)) (are_forms f wanted (j + 1) cs) (Ok false))
