-- The parts of the test of a point of a node's relaxation.
use Rattle.std.specs.Prelude.{ℕ, pos, ◌+ℤ◌, ◌≡◌, List, [], ◌∷◌, length, Some, IfSome, slice_get}
use Rattle.rational.specs.Rational.{Rational, whole, ◌≤ℚ◌}
use Rattle.milp.specs.Form.{number_at, sum_at}
use Rattle.milp.specs.Problem.{Column, Row}
use Rattle.milp.specs.Points.{IsWithin}
use Rattle.verdicts.specs.Certificate.{Split, Side, Low, High}
use Rattle.certificate.specs.Written.{column_form, split_column}
use Rattle.certificate.specs.Ways.{side_of}
use Rattle.search_node.specs.declared.node.SplitTaken.{SplitTaken}

-- a number for each column, inside its bounds
pub record AreInColumns (columns : List Column) (x : List Rational) : Type 0 where
  pub size : length x ≡ length columns
  pub within : (j : ℕ) → IfSome (slice_get columns j) (λ c. IsWithin c.lower c.upper (number_at x j))

-- each row is met
abbrev pub AreInRows : List Row → List Rational → Type 0
AreInRows rows x = (i : ℕ) → IfSome (slice_get rows i) (λ r. IsWithin r.lower r.upper (sum_at x r.entries))

-- the point is on this side of a split
abbrev pub IsOnSide : List Rational → Side → Type 0
IsOnSide x (Low s) = number_at x (split_column s) ≤ℚ whole s.at
IsOnSide x (High s) = whole (s.at +ℤ pos 1) ≤ℚ number_at x (split_column s)

-- the split is one of a column
abbrev pub IsOfColumn : Split → Type 0
IsOfColumn s = s.form ≡ column_form (split_column s)

-- all splits on a way are of columns
abbrev pub AreOfColumns : List Side → Type 0
AreOfColumns [] = Unit {0}
AreOfColumns (Low s ∷ sides) = IsOfColumn s × AreOfColumns sides
AreOfColumns (High s ∷ sides) = IsOfColumn s × AreOfColumns sides

-- the splits that were taken are of columns, and the point is on the side of each
abbrev pub AreOnSides : List Rational → List SplitTaken → Type 0
AreOnSides x taken = (k : ℕ) → IfSome (slice_get taken k) (λ t. IsOfColumn t.split × IsOnSide x (side_of t.split t.side))

-- one of the splits that were taken is of a column, and the point is not on the side of it
pub record IsOffSide (x : List Rational) (taken : List SplitTaken) : Type 0 where
  pub place : ℕ
  pub split : SplitTaken
  pub there : slice_get taken place ≡ Some split
  pub form : IsOfColumn split.split
  pub off : ¬ (IsOnSide x (side_of split.split split.side))
