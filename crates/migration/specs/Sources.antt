-- The split whose bound the weight of a column uses, found from a leaf back to the root.
use Rattle.std.specs.Prelude.{ℕ, ℤ, pos, ◌+ℤ◌, int_le, List, Bool, true, false, ◌&&◌, Option, Some, None, if◌then◌else◌}
use Rattle.rational.specs.Rational.{Rational, whole}
use Rattle.milp.specs.Problem.{Problem}
use Rattle.verdicts.specs.Certificate.{Split, Side as SideOf}
use Rattle.verdicts.specs.Certificate as of
use Rattle.verdicts.specs.Proves.{lower_under, upper_under, narrows}
use Rattle.verdicts.specs.Migrated.{raises, lowers, lower_source, upper_source}
use Rattle.certificate.specs.declared.split.Side.{Side}
use Rattle.certificate.specs.declared.split.Side.TheVariants.{Low, High}
use Rattle.migration.specs.declared.sources.Tightest.{Tightest}

-- the bound that a side of splits narrows: high sides the lower bound, low sides the upper one
abbrev pub bound_on : Side → Problem → List SideOf → ℕ → Option Rational
bound_on High p sides j = lower_under p sides j
bound_on Low p sides j = upper_under p sides j

-- the split that gives that bound
abbrev pub source_on : Side → Problem → List SideOf → ℕ → Option ℕ
source_on High p sides j = lower_source p sides j
source_on Low p sides j = upper_source p sides j

-- a side of a split at this number is tighter than the bound
abbrev pub tightens : Side → Option Rational → ℤ → Bool
tightens High bound at = raises bound (whole (at +ℤ pos 1))
tightens Low bound at = lowers bound (whole at)

-- and no looser than that of a split at another number
abbrev pub is_as_tight : Side → ℤ → ℤ → Bool
is_as_tight High at other = int_le other at
is_as_tight Low at other = int_le at other

abbrev pub is_on : Side → SideOf → Bool
is_on High (of.High s) = true
is_on High (of.Low s) = false
is_on Low (of.High s) = false
is_on Low (of.Low s) = true

abbrev pub split_of : SideOf → Split
split_of (of.Low s) = s
split_of (of.High s) = s

-- of two splits the tighter, where both are as tight the second
abbrev pub tighter : Side → Option Tightest → Tightest → Tightest
tighter side None t = t
tighter side (Some f) t = if is_as_tight side t.at f.at then t else f

-- the tightest split of a column so far, with one more split, by its index from the root
abbrev pub with_split : Side → Option Tightest → ℕ → SideOf → ℕ → Option Tightest
with_split side found index s j = if is_on side s && narrows (split_of s) j then Some (tighter side found (record { index = index; at = (split_of s).at })) else found

-- of what gives a bound and the bound itself, and a split that was found before, whichever is tighter
abbrev pub tightest_of : Side → Option ℕ → Option Rational → Option Tightest → Option ℕ
tightest_of side from bound None = from
tightest_of side from bound (Some t) = if tightens side bound t.at then Some t.index else from

-- the source of a bound, once the splits nearest a leaf are gone over, and others are left
abbrev pub source_from : Side → Problem → List SideOf → ℕ → Option Tightest → Option ℕ
source_from side p sides j found = tightest_of side (source_on side p sides j) (bound_on side p sides j) found
