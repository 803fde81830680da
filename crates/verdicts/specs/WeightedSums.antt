-- What weights make of rows: sums of forms and of bounds.
use Rattle.std.specs.Prelude.{zero, suc, cond, ◌==◌, ◌<◌, ℕ, List, [], ◌∷◌, ◌++◌}
use Rattle.rational.specs.Rational.{Rational, ◌≤ℚ◌, ◌+ℚ◌, ◌*ℚ◌, zero_ℚ}
use Rattle.milp.specs.Form.{Entry, value_at}

abbrev pub scaled : Rational → List Entry → List Entry
scaled w [] = []
scaled w (e ∷ es) = record { column = e.column; coefficient = w *ℚ e.coefficient } ∷ scaled w es

pub record Weighted : Type 0 where
  pub weight : Rational
  pub form : List Entry
  pub bound : Rational

abbrev pub combined : List Weighted → List Entry
combined [] = []
combined (r ∷ rs) = scaled r.weight r.form ++ combined rs

abbrev pub combined_bound : List Weighted → Rational
combined_bound [] = zero_ℚ
combined_bound (r ∷ rs) = r.weight *ℚ r.bound +ℚ combined_bound rs

-- x meets each row, form >= bound, and each weight is at least 0
abbrev pub AllMet : (ℕ → Rational) → List Weighted → Type 0
AllMet x [] = Unit {0}
AllMet x (r ∷ rs) = (zero_ℚ ≤ℚ r.weight) × (r.bound ≤ℚ value_at x r.form) × AllMet x rs

-- the coefficient of column j: the sum of those of its entries
abbrev pub coefficient_of : List Entry → ℕ → Rational
coefficient_of [] j = zero_ℚ
coefficient_of (e ∷ es) j = cond (e.column == j) e.coefficient zero_ℚ +ℚ coefficient_of es j

-- f 0 + .. + f (n - 1)
abbrev pub sum_below : ℕ → (ℕ → Rational) → Rational
sum_below zero f = zero_ℚ
sum_below (suc n) f = f n +ℚ sum_below n f

abbrev pub AllBelow : ℕ → List Entry → Type 0
AllBelow n [] = Unit {0}
AllBelow n (e ∷ es) = (e.column < n) × AllBelow n es
