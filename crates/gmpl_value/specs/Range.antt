-- Ranges of numbers.
use Rattle.std.specs.Prelude.{ℕ, zero, suc, ℤ, pos, Result, Ok, Err, List, [], ◌∷◌, map, cond, int_lt, unsigned_abs}
use Rattle.rational.specs.Rational.{Rational, floor_ℚ}
use Rattle.fraction.specs.Answers.{add_answer, sub_answer, div_answer}
use Rattle.gmpl_value.specs.declared.symbol.Symbol.{Symbol}
use Rattle.gmpl_value.specs.declared.symbol.Symbol.TheVariants.{Number}
use Rattle.gmpl_value.specs.declared.fault.SetFault.{SetFault}
use Rattle.gmpl_value.specs.declared.fault.SetFault.TheVariants.{TooMany}
use Rattle.gmpl_value.specs.Follows.{then_do, fitting}
use Rattle.gmpl_value.specs.Sets.{Elements, set_of, most_elements}

abbrev pub number_tuple : Rational → List Symbol
number_tuple q = Number q ∷ []

-- a number and so many more, each the one before plus the step
abbrev pub steps : ℕ → Rational → Rational → Result (List Rational) SetFault
steps zero q by = Ok (q ∷ [])
steps (suc n) q by = then_do (λ next. then_do (λ more. Ok (q ∷ more)) (steps n next by)) (fitting (add_answer q by))

-- the numbers from `from` on, where the last is so many steps away
abbrev pub counted : ℤ → Rational → Rational → Result (List Rational) SetFault
counted last from by =
    cond (int_lt last (pos 0)) (Ok []) (cond (int_lt last (pos most_elements)) (steps (unsigned_abs last) from by) (Err TooMany))

-- `from`, `from + by` and so on up to `to`, down to it where `by` is negative
abbrev pub progression_of : Rational → Rational → Rational → Result (List Rational) SetFault
progression_of from to by =
    then_do (λ distance. then_do (λ quotient. counted (floor_ℚ quotient) from by) (fitting (div_answer distance by))) (fitting (sub_answer to from))

abbrev pub range_of : Rational → Rational → Rational → Result Elements SetFault
range_of from to by = then_do (λ numbers. set_of (map number_tuple numbers)) (progression_of from to by)
