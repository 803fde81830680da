-- Linear forms: sums of a coefficient times the number of a column.
use Rattle.std.specs.Prelude.{ℕ, List, [], ◌∷◌, get_or}
use Rattle.rational.specs.Rational.{Rational, ◌+ℚ◌, ◌*ℚ◌, zero_ℚ}

-- a coefficient, and the index of the column that it stands before
pub record Entry : Type 0 where
  pub column : ℕ
  pub coefficient : Rational

-- the sum of coefficient times x at its column
abbrev pub value_at : (ℕ → Rational) → List Entry → Rational
value_at x [] = zero_ℚ
value_at x (e ∷ es) = e.coefficient *ℚ x e.column +ℚ value_at x es

-- the number of column j in a point; 0 past the point's end
abbrev pub number_at : List Rational → ℕ → Rational
number_at x j = get_or x j zero_ℚ

-- the value of a form at a point
abbrev pub sum_at : List Rational → List Entry → Rational
sum_at x form = value_at (number_at x) form
