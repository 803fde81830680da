-- The functions on numbers.
use Rattle.std.specs.Prelude.{pos, Bool, cond, not, Result, Ok, Err, List, [], ◌∷◌, fold}
use Rattle.rational.specs.Rational.{Rational, whole, over, zero_ℚ, floor_ℚ, neg_ℚ}
use Rattle.rational.specs.Compare.{is_less, is_negative, is_zero}
use Rattle.fraction.specs.Answers.{add_answer, sub_answer, mul_answer, div_answer}
use Rattle.fraction.specs.Literal.{read_of}
use Rattle.fraction.specs.declared.read.ReadFault.{ReadFault}
use Rattle.gmpl_value.specs.declared.symbol.Symbol.{Symbol}
use Rattle.gmpl_value.specs.declared.symbol.Symbol.TheVariants.{Number, Word}
use Rattle.gmpl_value.specs.declared.eval_fault.EvalFault.TheVariants.{DivZero, NoValue, NotANumber}
use Rattle.gmpl_value.specs.Outcome.{Outcome, then_do, fitting}

abbrev pub read_number : Result Rational ReadFault → Outcome Rational
read_number (Ok q) = Ok q
read_number (Err f) = Err NotANumber

-- a symbol in a numeric place: a string is read as a literal
abbrev pub number_of : Symbol → Outcome Rational
number_of (Number q) = Ok q
number_of (Word text) = read_number (read_of text)

-- a symbol in a logical place
abbrev pub truth_of : Symbol → Outcome Bool
truth_of (Number q) = Ok (not (is_zero q))
truth_of (Word text) = Err NotANumber

abbrev pub floor_of : Rational → Rational
floor_of q = whole (floor_ℚ q)

abbrev pub ceil_of : Rational → Rational
ceil_of q = neg_ℚ (floor_of (neg_ℚ q))

-- towards zero
abbrev pub trunc_of : Rational → Rational
trunc_of q = cond (is_negative q) (ceil_of q) (floor_of q)

abbrev pub half : Rational
half = over (pos 1) 2

-- the greatest whole number that is at most q + 1/2
abbrev pub round_of : Rational → Outcome Rational
round_of q = then_do (λ s. Ok (floor_of s)) (fitting (add_answer q half))

abbrev pub greater_of : Rational → Rational → Rational
greater_of a b = cond (is_less a b) b a

abbrev pub lesser_of : Rational → Rational → Rational
lesser_of a b = cond (is_less b a) b a

abbrev pub greatest_of : List Rational → Outcome Rational
greatest_of [] = Err NoValue
greatest_of (q ∷ qs) = Ok (fold greater_of q qs)

abbrev pub least_of : List Rational → Outcome Rational
least_of [] = Err NoValue
least_of (q ∷ qs) = Ok (fold lesser_of q qs)

-- how far a is above b, and 0 where it is not
abbrev pub less_of : Rational → Rational → Outcome Rational
less_of a b = then_do (λ d. Ok (cond (is_negative d) zero_ℚ d)) (fitting (sub_answer a b))

abbrev pub quotient_of : Rational → Rational → Outcome Rational
quotient_of a b = cond (is_zero b) (Err DivZero) (fitting (div_answer a b))

abbrev pub div_of : Rational → Rational → Outcome Rational
div_of a b = then_do (λ q. Ok (trunc_of q)) (quotient_of a b)

-- a - b * floor(a / b)
abbrev pub mod_of : Rational → Rational → Outcome Rational
mod_of a b = then_do (λ q. then_do (λ p. fitting (sub_answer a p)) (fitting (mul_answer b (floor_of q)))) (quotient_of a b)
