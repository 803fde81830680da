-- Bounds under splits.
use Rattle.std.specs.Prelude.{ℕ, ◌≡◌, pos, ◌+ℤ◌, List, get_or, Some, None, IfSome, slice_get}
use Rattle.rational.specs.Rational.{Rational, one_ℚ, whole}
use Rattle.verdicts.specs.Certificate.{Side, Low, High}
use Rattle.verdicts.specs.WeightedSums.{AllBelow}
use Rattle.verdicts.specs.Proves.{lesser, greater}
use Rattle.basis.specs.System.{Bounds}
use Rattle.basis.specs.Numbers.{at_of}
use Rattle.fraction.specs.Answers.{DoesNotFit}
use Rattle.fraction.specs.declared.frac.NoFit.{NoFit}
use Rattle.fraction.specs.declared.frac.Op.TheVariants.{Add}
use Rattle.search_node.specs.declared.node.SplitTaken.{SplitTaken}

-- the bounds of a column after one more split of it
abbrev pub narrowed_by : Side → Bounds → Bounds
narrowed_by (Low s) b = record { lower = b.lower; upper = Some (lesser b.upper (whole s.at)) }
narrowed_by (High s) b = record { lower = Some (greater b.lower (whole (s.at +ℤ pos 1))); upper = b.upper }

abbrev pub no_bounds : Bounds
no_bounds = record { lower = None; upper = None }

abbrev pub bounds_at : List Bounds → ℕ → Bounds
bounds_at bounds j = get_or bounds j no_bounds

-- all splits are of forms over the first n columns
abbrev pub AreOnColumns : ℕ → List SplitTaken → Type 0
AreOnColumns n taken = (k : ℕ) → IfSome (slice_get taken k) (λ t. AllBelow n t.split.form)

-- f is the sum of a and 1, and does not fit
pub record IsNextFault (a : Rational) (f : NoFit) : Type 0 where
  pub left : f.a ≡ a
  pub adds : f.op ≡ Add
  pub right : f.b ≡ one_ℚ
  pub not_fit : DoesNotFit f

-- f is the sum of the number at which a side's split is and 1, and does not fit
abbrev pub IsSplitFault : Side → NoFit → Type 0
IsSplitFault side f = IsNextFault (whole (at_of side)) f

-- f is such a sum for one of the sides
pub record AreSplitFaults (sides : List Side) (f : NoFit) : Type 0 where
  pub index : ℕ
  pub side : Side
  pub is_side : slice_get sides index ≡ Some side
  pub fault : IsSplitFault side f
