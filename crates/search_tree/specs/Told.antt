-- Weights of what rests at a point that make a column alone: so the point pins the column's number.
use Rattle.std.specs.Prelude.{ℕ, ◌≡◌, ◌<◌, List, length, Option, Some, None, IfSome, slice_get}
use Rattle.rational.specs.Rational.{Rational, zero_ℚ}
use Rattle.milp.specs.Form.{number_at, sum_at}
use Rattle.milp.specs.Problem.{Row, Problem}
use Rattle.verdicts.specs.Certificate.{Item, Side}
use Rattle.verdicts.specs.Proves.{lower_under, upper_under}

-- the value is at a bound, or it is 0 and there are none
pub data IsAtBound (lower upper : Option Rational) (v : Rational) : Type 0 where
  at_lower : lower ≡ Some v → IsAtBound lower upper v
  at_upper : upper ≡ Some v → IsAtBound lower upper v
  at_zero : lower ≡ None → upper ≡ None → v ≡ zero_ℚ → IsAtBound lower upper v

-- the row rests at the point
pub record IsRowAtRest (p : Problem) (x : List Rational) (i : ℕ) : Type 0 where
  pub row : Row
  pub there : slice_get p.rows i ≡ Some row
  pub rests : IsAtBound row.lower row.upper (sum_at x row.entries)

-- the column rests at the point
pub record IsColumnAtRest (p : Problem) (sides : List Side) (x : List Rational) (j : ℕ) : Type 0 where
  pub known : j < length p.columns
  pub rests : IsAtBound (lower_under p sides j) (upper_under p sides j) (number_at x j)

-- each row that is named rests
abbrev pub AreRowsAtRest : Problem → List Rational → List Item → Type 0
AreRowsAtRest p x items = (k : ℕ) → IfSome (slice_get items k) (λ i. IsRowAtRest p x i.index)

-- each column that is named rests
abbrev pub AreColumnsAtRest : Problem → List Side → List Rational → List Item → Type 0
AreColumnsAtRest p sides x items = (k : ℕ) → IfSome (slice_get items k) (λ i. IsColumnAtRest p sides x i.index)
