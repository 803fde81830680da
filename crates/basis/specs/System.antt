-- A linear program in the form that the simplex method works on: variables with bounds, of which the later ones are sums of the first.
use Rattle.std.specs.Prelude.{ℕ, ◌+◌, ◌-◌, ◌<◌, ◌≡◌, cond, nat_lt, List, [], ◌∷◌, length, get_or, Option, option_and_then, slice_get, IfSome}
use Rattle.rational.specs.Rational.{Rational, one_ℚ, ◌≤ℚ◌, ◌<ℚ◌}
use Rattle.milp.specs.Form.{Entry, value_at}
use Rattle.milp.specs.Points.{IsWithin}
use Rattle.verdicts.specs.WeightedSums.{AllBelow}

-- what a variable is at least and at most, where it has such bounds
pub record Bounds : Type 0 where
  pub lower : Option Rational
  pub upper : Option Rational

-- The variables are the columns, and then one variable for each form, in order, which is the form's value.
-- There are bounds for each variable, and the objective, a form over columns, is to be made small.
pub record System : Type 0 where
  pub columns : ℕ
  pub forms : List (List Entry)
  pub bounds : List Bounds
  pub objective : List Entry

-- the number of variables
abbrev pub size : System → ℕ
size s = s.columns + length s.forms

abbrev pub lower_of : System → ℕ → Option Rational
lower_of s v = option_and_then (λ (b : Bounds). b.lower) (slice_get s.bounds v)

abbrev pub upper_of : System → ℕ → Option Rational
upper_of s v = option_and_then (λ (b : Bounds). b.upper) (slice_get s.bounds v)

-- each form and the objective are over columns, and each variable has its bounds
pub record IsSystem (s : System) : Type 0 where
  pub forms : (k : ℕ) → IfSome (slice_get s.forms k) (AllBelow s.columns)
  pub objective : AllBelow s.columns s.objective
  pub bounds : length s.bounds ≡ size s

-- the numbers x solve `row = A * column`: the variable of each form is the form's value
pub record Satisfies (s : System) (x : ℕ → Rational) : Type 0 where
  pub values : (k : ℕ) → IfSome (slice_get s.forms k) (λ form. x (s.columns + k) ≡ value_at x form)

-- the variable v is inside its bounds
abbrev pub IsInside : System → (ℕ → Rational) → ℕ → Type 0
IsInside s x v = IsWithin (lower_of s v) (upper_of s v) (x v)

abbrev pub AllInside : System → (ℕ → Rational) → Type 0
AllInside s x = (v : ℕ) → v < size s → IsInside s x v

-- no lower bound is above the upper one
abbrev pub AreBoundsInOrder : System → Type 0
AreBoundsInOrder s = (v : ℕ) → IfSome (lower_of s v) (λ l. IfSome (upper_of s v) (λ u. l ≤ℚ u))

-- its bounds let v rise from where it is
abbrev pub CanRise : System → (ℕ → Rational) → ℕ → Type 0
CanRise s x v = IfSome (upper_of s v) (λ u. x v <ℚ u)

-- its bounds let v fall from where it is
abbrev pub CanFall : System → (ℕ → Rational) → ℕ → Type 0
CanFall s x v = IfSome (lower_of s v) (λ l. l <ℚ x v)

-- the form whose value is the number of column j
abbrev pub unit_form : ℕ → List Entry
unit_form j = record { column = j; coefficient = one_ℚ } ∷ []

-- the variable v as a form over columns
abbrev pub form_of : System → ℕ → List Entry
form_of s v = cond (nat_lt v s.columns) (unit_form v) (get_or s.forms (v - s.columns) [])

-- the point of the system with the numbers z on the columns
abbrev pub extended : System → (ℕ → Rational) → ℕ → Rational
extended s z v = cond (nat_lt v s.columns) (z v) (value_at z (get_or s.forms (v - s.columns) []))
