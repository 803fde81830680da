-- The ranges of a problem's costs and bounds: what their ends say.
use Rattle.std.specs.Prelude.{ℕ, ◌↔◌, List, Option, Some, None, IfSome, slice_get}
use Rattle.rational.specs.Rational.{Rational}
use Rattle.milp.specs.Problem.{Row, Problem}
use Rattle.milp.specs.Points.{IsWithin}
use Rattle.verdicts.specs.Certificate.{Weights}
use Rattle.ranging.specs.CostRanges.{InCostRange}
use Rattle.ranging.specs.BoundRanges.{BoundSide, Lower, Upper, used_bound, InBoundRange}
pub use Rattle.exact_ranges.specs.declared.range.Range.{Range}
pub use Rattle.exact_ranges.specs.declared.range.RowRanges.{RowRanges}

-- the range of each column's cost, and of each row's bounds
pub record AllRanges : Type 0 where
  pub costs : List Range
  pub rows : List RowRanges

-- a number is in the range exactly where the point x is best with it as the cost of column j
abbrev pub IsCostRange : Problem → List Rational → ℕ → Range → Type 0
IsCostRange p x j r = (t : Rational) → IsWithin r.low r.high t ↔ InCostRange p x j t

abbrev pub AreCostRanges : Problem → List Rational → List Range → Type 0
AreCostRanges p x ranges = (j : ℕ) → IfSome (slice_get ranges j) (IsCostRange p x j)

-- there is a range exactly where there is a bound, and a number is in it exactly where, in place of the bound, the value
-- goes on as the weights promise
abbrev pub IsBoundRange : Problem → List Rational → Weights → ℕ → BoundSide → Option Rational → Option Range → Type 0
IsBoundRange p x w i s None None = Unit {0}
IsBoundRange p x w i s None (Some r) = ⊥
IsBoundRange p x w i s (Some b) None = ⊥
IsBoundRange p x w i s (Some b) (Some r) = (t : Rational) → IsWithin r.low r.high t ↔ InBoundRange p (used_bound p x w i s b) t

-- the ranges of the bounds of row i
pub record AreRangesOf (p : Problem) (x : List Rational) (w : Weights) (i : ℕ) (row : Row) (ranges : RowRanges) : Type 0 where
  pub lower : IsBoundRange p x w i Lower row.lower ranges.lower
  pub upper : IsBoundRange p x w i Upper row.upper ranges.upper

abbrev pub AreBoundRanges : Problem → List Rational → Weights → List RowRanges → Type 0
AreBoundRanges p x w ranges = (i : ℕ) → IfSome (slice_get ranges i) (λ r. IfSome (slice_get p.rows i) (λ row. AreRangesOf p x w i row r))
