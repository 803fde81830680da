-- What cuts are made of at a basis: where each variable rests, its number, and how much a basic variable changes with it.
use Rattle.std.specs.Prelude.{ℕ, ◌≡◌, ◌<◌, Bool, false, List, [], length, Option, Some, None, if◌then◌else◌}
use Rattle.rational.specs.Rational.{Rational, zero_ℚ}
use Rattle.rational.specs.Compare.{is_at_most}
use Rattle.milp.specs.Form.{number_at}
use Rattle.milp.specs.Problem.{Problem}
use Rattle.basis.specs.System.{System, lower_of, upper_of, extended}
use Rattle.basis.specs.Dictionary.{place_of, Dictionary, rate_of}
use Rattle.basis.specs.Node.{system_of}
use Rattle.basis.specs.Weights.{numbers_from}
use Rattle.dictionary.specs.Table.{is_basic}
use Rattle.basis.specs.declared.Place.{Place}
use Rattle.basis.specs.declared.Place.TheVariants.{Basic, AtLower, AtUpper, AtZero}

-- no number but one lies inside these bounds
abbrev pub is_fixed : Option Rational → Option Rational → Bool
is_fixed None upper = false
is_fixed (Some l) None = false
is_fixed (Some l) (Some u) = is_at_most u l

-- a fixed variable that rests at its upper bound rests at the lower one
abbrev pub settled : Option Rational → Option Rational → Place → Place
settled lower upper Basic = Basic
settled lower upper AtLower = AtLower
settled lower upper AtUpper = if is_fixed lower upper then AtLower else AtUpper
settled lower upper AtZero = AtZero

-- the system of the problem itself
abbrev pub root_system : Problem → System
root_system p = system_of p [] []

abbrev pub settled_place : Problem → List Place → ℕ → Place
settled_place p b v = settled (lower_of (root_system p) v) (upper_of (root_system p) v) (place_of b v)

-- c is b, with fixed variables at their lower bounds
pub record AreSettled (p : Problem) (b c : List Place) : Type 0 where
  pub size : length c ≡ length b
  pub places : (v : ℕ) → v < length b → place_of c v ≡ settled_place p b v

-- the number of the variable v where the columns have the numbers of x
abbrev pub variable_number : Problem → List Rational → ℕ → Rational
variable_number p x v = extended (root_system p) (number_at x) v

-- the numbers of all variables, of which there are as many as places
abbrev pub numbers_of : Problem → List Place → List Rational → ℕ → Rational
numbers_of p c x = number_at (numbers_from 0 (length c) (variable_number p x))

-- how much r changes with the variable v where that one rests, and 0 for a basic one
abbrev pub rate_at : List Place → Dictionary → ℕ → ℕ → Rational
rate_at b d r v = if is_basic (place_of b v) then zero_ℚ else rate_of d v r
