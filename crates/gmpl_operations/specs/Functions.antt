-- Functions on the values of their arguments, signs and groups.
use Rattle.std.specs.Prelude.{pos, Ok, Err, List, [], ◌∷◌, length}
use Rattle.rational.specs.Rational.{Rational, whole, abs_ℚ}
use Rattle.gmpl_syntax.specs.declared.expression.Function.{Function}
use Rattle.gmpl_syntax.specs.declared.expression.Function.TheVariants as f
use Rattle.gmpl_syntax.specs.declared.expression.Sign.{Sign}
use Rattle.gmpl_syntax.specs.declared.expression.Sign.TheVariants.{Plus, Minus}
use Rattle.gmpl_value.specs.declared.symbol.Symbol.{Symbol}
use Rattle.gmpl_value.specs.Sets.{Elements as Set}
use Rattle.gmpl_value.specs.declared.eval_fault.EvalFault.TheVariants.{NotANumber}
use Rattle.gmpl_value.specs.Outcome.{Outcome, then_do}
use Rattle.gmpl_functions.specs.Numbers.{floor_of, ceil_of, trunc_of, round_of, greatest_of, least_of}
use Rattle.gmpl_functions.specs.Powers.{round_to, trunc_to}
use Rattle.gmpl_functions.specs.Strings.{substring_of, rest_of}
use Rattle.gmpl_functions.specs.Amounts.{negative_of}
use Rattle.gmpl_operations.specs.declared.value.Value.{Value}
use Rattle.gmpl_operations.specs.declared.value.Value.TheVariants.{Scalar, Group}
use Rattle.gmpl_operations.specs.Values.{number_in, amount_in, of_number, as_value, as_number}

-- functions of one number
abbrev pub of_one : Function → Rational → Outcome Rational
of_one f.Abs q = Ok (abs_ℚ q)
of_one f.Ceil q = Ok (ceil_of q)
of_one f.Floor q = Ok (floor_of q)
of_one f.Trunc q = Ok (trunc_of q)
of_one f.Round q = round_of q
of_one _ q = Err NotANumber

-- functions of a number and a number of decimal places
abbrev pub of_two : Function → Rational → Rational → Outcome Rational
of_two f.Trunc q n = trunc_to q n
of_two f.Round q n = round_to q n
of_two _ q n = Err NotANumber

abbrev pub of_all : Function → List Rational → Outcome Rational
of_all function (q ∷ []) = of_one function q
of_all function (q ∷ n ∷ []) = of_two function q n
of_all function _ = Err NotANumber

-- functions of numbers alone
abbrev pub of_numbers : Function → List Rational → Outcome Rational
of_numbers f.Max qs = greatest_of qs
of_numbers f.Min qs = least_of qs
of_numbers function qs = of_all function qs

-- the characters of a text from a place on, to its end or so many
abbrev pub sliced : Symbol → List Rational → Outcome Symbol
sliced s (place ∷ []) = rest_of s place
sliced s (place ∷ count ∷ []) = substring_of s place count
sliced s _ = Err NotANumber

abbrev pub signed : Sign → Value → Outcome Value
signed Plus v = as_value (amount_in v)
signed Minus v = as_value (then_do negative_of (amount_in v))
