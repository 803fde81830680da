-- Powers, and rounding to a number of decimal places.
use Rattle.std.specs.Prelude.{ℕ, zero, suc, pos, cond, unsigned_abs, Ok, Err}
use Rattle.rational.specs.Rational.{Rational, one_ℚ, whole}
use Rattle.rational.specs.Compare.{is_negative, is_whole}
use Rattle.fraction.specs.Answers.{mul_answer}
use Rattle.gmpl_value.specs.declared.eval_fault.EvalFault.TheVariants.{NotWhole}
use Rattle.gmpl_value.specs.Outcome.{Outcome, then_do, fitting}
use Rattle.gmpl_functions.specs.Numbers.{quotient_of, round_of, trunc_of}

-- a product with so many factors more on its right
abbrev pub with_factors : ℕ → Rational → Rational → Outcome Rational
with_factors zero product x = Ok product
with_factors (suc n) product x = then_do (λ p. with_factors n p x) (fitting (mul_answer product x))

-- x * x * .., from the left
abbrev pub product_of : Rational → ℕ → Outcome Rational
product_of x n = with_factors n one_ℚ x

abbrev pub power_of : Rational → Rational → Outcome Rational
power_of x n =
    cond (is_whole n)
    (cond (is_negative n) (then_do (λ p. quotient_of one_ℚ p) (product_of x (unsigned_abs n.numerator))) (product_of x (unsigned_abs n.numerator)))
    (Err NotWhole)

abbrev pub ten : Rational
ten = whole (pos 10)

abbrev pub round_to : Rational → Rational → Outcome Rational
round_to x n =
    then_do (λ scale. then_do (λ scaled. then_do (λ r. quotient_of r scale) (round_of scaled)) (fitting (mul_answer x scale))) (power_of ten n)

abbrev pub trunc_to : Rational → Rational → Outcome Rational
trunc_to x n =
    then_do (λ scale. then_do (λ scaled. quotient_of (trunc_of scaled) scale) (fitting (mul_answer x scale))) (power_of ten n)
