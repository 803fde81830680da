-- Numbers that are told by what rests at a point of a node.
use Rattle.std.specs.Prelude.{ℕ, ◌<◌, ◌≡◌, List, Some, None}
use Rattle.rational.specs.Rational.{Rational, zero_ℚ}
use Rattle.milp.specs.Form.{number_at}
use Rattle.basis.specs.System.{System, size, lower_of, upper_of, Satisfies, extended}

-- the number of the variable u at the point x
abbrev pub number_of : System → List Rational → ℕ → Rational
number_of s x u = extended s (number_at x) u

-- the variable u rests at the point x: it is at a bound of its own, or it has none and is 0
pub data IsAtRest (s : System) (x : List Rational) (u : ℕ) : Type 0 where
  at_lower : lower_of s u ≡ Some (number_of s x u) → IsAtRest s x u
  at_upper : upper_of s u ≡ Some (number_of s x u) → IsAtRest s x u
  at_zero : lower_of s u ≡ None → upper_of s u ≡ None → number_of s x u ≡ zero_ℚ → IsAtRest s x u

-- y is as x is, where a variable rests at x
abbrev pub AgreeAtRest : System → List Rational → (ℕ → Rational) → Type 0
AgreeAtRest s x y = (u : ℕ) → u < size s → IsAtRest s x u → y u ≡ number_of s x u

-- what rests at the point x tells the number of column j: all that solve the rows, and are as x is where x rests, have this number
pub record IsPinned (s : System) (x : List Rational) (j : ℕ) : Type 0 where
  pub tells : (y : ℕ → Rational) → Satisfies s y → AgreeAtRest s x y → y j ≡ number_at x j
