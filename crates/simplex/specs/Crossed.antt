-- Lower bounds above upper ones.
use Rattle.std.specs.Prelude.{ℕ, Bool, false, Option, Some, None, IfSome}
use Rattle.rational.specs.Rational.{Rational, ◌≤ℚ◌}
use Rattle.rational.specs.Compare.{is_less}
use Rattle.basis.specs.System.{System, lower_of, upper_of}

abbrev pub is_above : Rational → Option Rational → Bool
is_above l None = false
is_above l (Some u) = is_less u l

-- the lower bound is above the upper one
abbrev pub are_crossed : Option Rational → Option Rational → Bool
are_crossed None upper = false
are_crossed (Some l) upper = is_above l upper

-- the lower bound of v is not above its upper one
abbrev pub IsInOrder : System → ℕ → Type 0
IsInOrder s v = IfSome (lower_of s v) (λ l. IfSome (upper_of s v) (λ u. l ≤ℚ u))
