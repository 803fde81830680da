-- The bounds that are tight at a point, sums of weights on them, and directions that near none of them.
use Rattle.std.specs.Prelude.{ℕ, suc, negsuc, ◌<◌, List, [], ◌∷◌, ◌++◌, length, Option, Some, None, if◌then◌else◌, ◌≡◌}
use Rattle.rational.specs.Rational.{Rational, zero_ℚ, one_ℚ, whole, ◌*ℚ◌, ◌≤ℚ◌}
use Rattle.rational.specs.Compare.{is_same}
use Rattle.milp.specs.Form.{Entry, sum_at}
use Rattle.milp.specs.Problem.{Column, Row, Problem}
use Rattle.milp.specs.Points.{sign_of}
use Rattle.verdicts.specs.WeightedSums.{scaled, coefficient_of, AllBelow}
use Rattle.ranging.specs.CostRanges.{with_cost, signed_number}

-- the form and the rest, where the bound is there and the form's value v reaches it
abbrev pub if_tight : Option Rational → Rational → List Entry → List (List Entry) → List (List Entry)
if_tight None v form rest = rest
if_tight (Some b) v form rest = if is_same b v then form ∷ rest else rest

-- a lower bound by its form, an upper one by the form negated: no feasible point has less of either than x
abbrev pub tight_at : List Rational → List Entry → Option Rational → Option Rational → List (List Entry) → List (List Entry)
tight_at x form lower upper rest = if_tight lower (sum_at x form) form (if_tight upper (sum_at x form) (scaled (whole (negsuc 0)) form) rest)

-- of all rows
abbrev pub tight_rows : List Rational → List Row → List (List Entry)
tight_rows x [] = []
tight_rows x (r ∷ rs) = tight_at x r.entries r.lower r.upper (tight_rows x rs)

-- of the columns from place j on, before the rest
abbrev pub tight_columns : List Rational → ℕ → List Column → List (List Entry) → List (List Entry)
tight_columns x j [] rest = rest
tight_columns x j (c ∷ cs) rest = tight_at x (record { column = j; coefficient = one_ℚ } ∷ []) c.lower c.upper (tight_columns x (suc j) cs rest)

-- the forms of all bounds that are tight at x, those of columns first
abbrev pub tight_forms : Problem → List Rational → List (List Entry)
tight_forms p x = tight_columns x 0 p.columns (tight_rows x p.rows)

-- ---- sums of weights

-- each form times its weight, and all added
abbrev pub weighted_sum : List Rational → List (List Entry) → List Entry
weighted_sum [] fs = []
weighted_sum (w ∷ ws) [] = []
weighted_sum (w ∷ ws) (f ∷ fs) = scaled w f ++ weighted_sum ws fs

-- no weight is below 0
abbrev pub AllNonNegative : List Rational → Type 0
AllNonNegative [] = Unit {0}
AllNonNegative (w ∷ ws) = (zero_ℚ ≤ℚ w) × AllNonNegative ws

-- weights from 0 on, on the bounds that are tight at x, whose sum is the form
pub record IsTightSum (p : Problem) (x ws : List Rational) (form : List Entry) : Type 0 where
  pub signs : AllNonNegative ws
  pub same : (k : ℕ) → k < length p.columns → coefficient_of (weighted_sum ws (tight_forms p x)) k ≡ coefficient_of form k

-- the forms of the rows speak of columns below n alone
abbrev pub RowsInRange : ℕ → List Row → Type 0
RowsInRange n [] = Unit {0}
RowsInRange n (r ∷ rs) = AllBelow n r.entries × RowsInRange n rs

-- rows and objective speak of the problem's own columns alone
pub record FormsInRange (p : Problem) : Type 0 where
  pub rows : RowsInRange (length p.columns) p.rows
  pub objective : AllBelow (length p.columns) p.objective

-- ---- directions

-- no form falls along the direction
abbrev pub NoneFalls : List Rational → List (List Entry) → Type 0
NoneFalls d [] = Unit {0}
NoneFalls d (f ∷ fs) = (zero_ℚ ≤ℚ sum_at d f) × NoneFalls d fs

-- a direction from x that nears no tight bound, changes the signed number of column j by the step, and is no worse where the
-- cost of column j is t
pub record IsEndDirection (p : Problem) (x : List Rational) (j : ℕ) (t step : Rational) (d : List Rational) : Type 0 where
  pub size : length d ≡ length p.columns
  pub nears_none : NoneFalls d (tight_forms p x)
  pub moves : signed_number p j d ≡ step
  pub no_worse : sign_of p.direction *ℚ sum_at d (with_cost p j t).objective ≤ℚ zero_ℚ
