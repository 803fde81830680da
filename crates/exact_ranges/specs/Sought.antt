-- The end of a range that is sought, and its auxiliary problem.
use Rattle.std.specs.Prelude.{ℕ, ◌<◌, ◌≡◌, List, length, Some, option_and_then, slice_get}
use Rattle.rational.specs.Rational.{Rational}
use Rattle.milp.specs.Problem.{Problem}
use Rattle.milp.specs.declared.Direction.{Direction}
use Rattle.milp.specs.declared.Direction.TheVariants.{Min, Max}
use Rattle.verdicts.specs.Certificate.{Weights}
use Rattle.ranging.specs.BoundRanges.{BoundSide, bound_of, used_bound}
use Rattle.ranging.specs.BoundRanges as of
use Rattle.ranging.specs.CostAuxiliary.{cost_auxiliary}
use Rattle.ranging.specs.BoundAuxiliary.{bound_auxiliary}
pub use Rattle.exact_ranges.specs.declared.sought.Side.{Side}
pub use Rattle.exact_ranges.specs.declared.sought.Side.TheVariants.{Lower, Upper}
pub use Rattle.exact_ranges.specs.declared.sought.End.{End}
pub use Rattle.exact_ranges.specs.declared.sought.End.TheVariants.{Least, Greatest}
pub use Rattle.exact_ranges.specs.declared.sought.Sought.{Sought}
pub use Rattle.exact_ranges.specs.declared.sought.Sought.TheVariants.{OfCost, OfBound}

abbrev pub side_of : Side → BoundSide
side_of Lower = of.Lower
side_of Upper = of.Upper

abbrev pub wanted_of : End → Direction
wanted_of Least = Min
wanted_of Greatest = Max

-- b is the bound of row i on this side
abbrev pub HasBound : Problem → ℕ → Side → Rational → Type 0
HasBound p i s b = option_and_then (bound_of (side_of s)) (slice_get p.rows i) ≡ Some b

-- q is the auxiliary problem of the end: of a cost, or of a bound that is there
abbrev pub IsAuxiliary : Problem → List Rational → Weights → Sought → Problem → Type 0
IsAuxiliary p x w (OfCost j e) q = (j < length p.columns) × (q ≡ cost_auxiliary p x j (wanted_of e))
IsAuxiliary p x w (OfBound i s e) q = (b : Rational) × HasBound p i s b × (q ≡ bound_auxiliary p (used_bound p x w i (side_of s) b) (wanted_of e))

-- which number of the auxiliary problem's column is wanted
abbrev pub wanted_by : Sought → Direction
wanted_by (OfCost j e) = wanted_of e
wanted_by (OfBound i s e) = wanted_of e
