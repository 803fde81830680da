-- Bases, their dictionaries and their points.
use Rattle.std.specs.Prelude.{ℕ, ◌<◌, ◌≡◌, ◌≢◌, ◌↔◌, List, [], ◌∷◌, length, get_or, Some, None}
use Rattle.rational.specs.Rational.{Rational, zero_ℚ}
use Rattle.milp.specs.Form.{Entry, value_at}
use Rattle.verdicts.specs.WeightedSums.{coefficient_of}
use Rattle.basis.specs.System.{System, size, lower_of, upper_of, Satisfies}
use Rattle.basis.specs.declared.Place.{Place}
use Rattle.basis.specs.declared.Place.TheVariants.{Basic, AtLower, AtUpper, AtZero}

-- A basis is a list of places, one for each variable: it is basic, or it rests at its lower or upper bound, or at 0.

-- the place of the variable v
abbrev pub place_of : List Place → ℕ → Place
place_of b v = get_or b v AtZero

abbrev pub IsBasic : List Place → ℕ → Type 0
IsBasic b v = place_of b v ≡ Basic

-- v is a variable, and not a basic one
pub record IsResting (b : List Place) (v : ℕ) : Type 0 where
  pub known : v < length b
  pub not_basic : place_of b v ≢ Basic

-- the form is over resting variables
abbrev pub AllResting : List Place → List Entry → Type 0
AllResting b [] = Unit {0}
AllResting b (e ∷ form) = IsResting b e.column × AllResting b form

-- a form for each variable, of which those of the basic ones count, and one for the objective
pub record Dictionary : Type 0 where
  pub row : ℕ → List Entry
  pub objective : List Entry

-- each basic variable is the value of its form
pub record Solves (b : List Place) (d : Dictionary) (x : ℕ → Rational) : Type 0 where
  pub values : (v : ℕ) → IsBasic b v → x v ≡ value_at x (d.row v)

-- all its forms are over resting variables
pub record IsOverResting (b : List Place) (d : Dictionary) : Type 0 where
  pub rows : (v : ℕ) → IsBasic b v → AllResting b (d.row v)
  pub objective : AllResting b d.objective

-- the equations of d, for the basic variables and the objective over the resting ones, hold at just the points of the system
pub record IsDictionary (s : System) (b : List Place) (d : Dictionary) : Type 0 where
  pub size : length b ≡ size s
  pub over_resting : IsOverResting b d
  pub same_points : (x : ℕ → Rational) → Satisfies s x ↔ Solves b d x
  pub same_objective : (x : ℕ → Rational) → Satisfies s x → value_at x s.objective ≡ value_at x d.objective

-- how much the basic variable v changes where the resting variable q rises by 1 and no other one moves
abbrev pub rate_of : Dictionary → ℕ → ℕ → Rational
rate_of d q v = coefficient_of (d.row v) q

-- how much the objective changes where the resting variable q rises by 1 and no other one moves
abbrev pub gain_of : Dictionary → ℕ → Rational
gain_of d q = coefficient_of d.objective q

-- a has the place that is said: it is the bound, or 0 where there is none
abbrev pub RestsAt : System → Place → ℕ → Rational → Type 0
RestsAt s Basic v a = Unit {0}
RestsAt s AtLower v a = lower_of s v ≡ Some a
RestsAt s AtUpper v a = upper_of s v ≡ Some a
RestsAt s AtZero v a = (lower_of s v ≡ None) × (upper_of s v ≡ None) × (a ≡ zero_ℚ)

-- the point of the system at which each resting variable is where its place says
pub record IsBasicPoint (s : System) (b : List Place) (x : ℕ → Rational) : Type 0 where
  pub rests : (v : ℕ) → v < length b → RestsAt s (place_of b v) v (x v)
  pub solves : Satisfies s x
