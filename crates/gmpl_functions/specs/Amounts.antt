-- The operators on numbers and forms: what isn't linear has no value.
use Rattle.std.specs.Prelude.{Ok, Err, []}
use Rattle.rational.specs.Rational.{Rational, neg_ℚ}
use Rattle.fraction.specs.Answers.{mul_answer}
use Rattle.gmpl_value.specs.declared.eval_fault.EvalFault.TheVariants.{Nonlinear}
use Rattle.gmpl_value.specs.Outcome.{Outcome, fitting, then_do}
use Rattle.gmpl_functions.specs.Numbers.{quotient_of}
use Rattle.gmpl_functions.specs.declared.amount.Amount.{Amount}
use Rattle.gmpl_functions.specs.declared.amount.Amount.TheVariants.{Number, Form}
use Rattle.gmpl_functions.specs.declared.scaling.Scaling.TheVariants.{By, Of, Over, Negated}
use Rattle.gmpl_functions.specs.declared.terms.Sign.{Sign}
use Rattle.gmpl_functions.specs.Linear.{Linear, linear}
use Rattle.gmpl_functions.specs.Scalings.{scaled}
use Rattle.gmpl_functions.specs.Sums.{combined, operation}

-- what every operator but these asks of its operands
abbrev pub number_in : Amount → Outcome Rational
number_in (Number q) = Ok q
number_in (Form f) = Err Nonlinear

abbrev pub form_in : Amount → Linear
form_in (Number q) = linear [] q
form_in (Form f) = f

abbrev pub as_number : Outcome Rational → Outcome Amount
as_number = then_do (λ q. Ok (Number q))

abbrev pub as_form : Outcome Linear → Outcome Amount
as_form = then_do (λ f. Ok (Form f))

abbrev pub sum_of : Sign → Amount → Amount → Outcome Amount
sum_of sign (Number a) (Number b) = as_number (operation sign a b)
sum_of sign a b = as_form (combined sign (form_in a) (form_in b))

abbrev pub product_of : Amount → Amount → Outcome Amount
product_of (Number a) (Number b) = as_number (fitting (mul_answer a b))
product_of (Number a) (Form g) = as_form (scaled (Of a) g)
product_of (Form f) (Number b) = as_form (scaled (By b) f)
product_of (Form f) (Form g) = Err Nonlinear

abbrev pub ratio_of : Amount → Amount → Outcome Amount
ratio_of (Number a) (Number b) = as_number (quotient_of a b)
ratio_of (Form f) (Number b) = as_form (scaled (Over b) f)
ratio_of a (Form g) = Err Nonlinear

abbrev pub negative_of : Amount → Outcome Amount
negative_of (Number a) = Ok (Number (neg_ℚ a))
negative_of (Form f) = as_form (scaled Negated f)
