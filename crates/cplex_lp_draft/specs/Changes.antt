-- What a text does to a column after its first mention.
use Rattle.std.specs.Prelude.{true, Some, None}
use Rattle.std.specs.declared.option.Option.{Option}
use Rattle.rational.specs.Rational.{Rational, zero_ℚ, one_ℚ}
use Rattle.milp.specs.Problem.{Column}
use Rattle.cplex_lp_tokens.specs.declared.token.Relation.{Relation}
use Rattle.cplex_lp_tokens.specs.declared.token.Relation.TheVariants.{AtMost, AtLeast, Exactly}
use Rattle.cplex_lp_draft.specs.declared.column_change.ColumnChange.{ColumnChange}
use Rattle.cplex_lp_draft.specs.declared.column_change.ColumnChange.TheVariants.{Kept, Bounded, Freed, MadeInteger, MadeBinary}
use Rattle.cplex_lp_draft.specs.declared.expecting.Limit.{Limit}
use Rattle.cplex_lp_draft.specs.declared.expecting.Limit.TheVariants.{MinusInfinity, Finite, PlusInfinity}

-- an infinite bound is none
abbrev pub bound_of : Limit → Option Rational
bound_of (Finite v) = Some v
bound_of MinusInfinity = None
bound_of PlusInfinity = None

-- a column that stands in this relation to a limit; a negative upper bound leaves the lower one
abbrev pub bounded : Relation → Limit → Column → Column
bounded AtMost limit c = record c { upper = bound_of limit }
bounded AtLeast limit c = record c { lower = bound_of limit }
bounded Exactly limit c = record c { lower = bound_of limit; upper = bound_of limit }

abbrev pub freed : Column → Column
freed c = record c { lower = None; upper = None }

abbrev pub made_integer : Column → Column
made_integer c = record c { integer = true }

abbrev pub made_binary : Column → Column
made_binary c = record c { lower = Some zero_ℚ; upper = Some one_ℚ; integer = true }

abbrev pub changed : ColumnChange → Column → Column
changed Kept c = c
changed (Bounded relation limit) c = bounded relation limit c
changed Freed c = freed c
changed MadeInteger c = made_integer c
changed MadeBinary c = made_binary c
