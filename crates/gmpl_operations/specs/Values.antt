-- What an expression comes to, and what each place asks of it (GNU MathProg Language Reference, chapter on expressions). A kind
-- that a place does not take is refused in the third pass over a model; here it is NotANumber.
use Rattle.std.specs.Prelude.{Bool, Result, Ok, Err, List, [], ◌∷◌}
use Rattle.rational.specs.Rational.{Rational}
use Rattle.gmpl_value.specs.declared.symbol.Symbol.{Symbol}
use Rattle.gmpl_value.specs.declared.symbol.Symbol.TheVariants.{Number}
use Rattle.gmpl_value.specs.declared.fault.SetFault.{SetFault}
use Rattle.gmpl_value.specs.Sets.{Elements as Set}
use Rattle.gmpl_value.specs.declared.eval_fault.EvalFault.TheVariants.{NotANumber, Nonlinear}
use Rattle.gmpl_value.specs.Outcome.{Outcome, then_do, as_eval_fault}
use Rattle.gmpl_functions.specs.Numbers.{number_of, truth_of}
use Rattle.gmpl_functions.specs.declared.amount.Amount.{Amount}
use Rattle.gmpl_functions.specs.declared.amount.Amount.TheVariants as amount
use Rattle.gmpl_operations.specs.declared.value.Value.{Value}
use Rattle.gmpl_operations.specs.declared.value.Value.TheVariants.{Scalar, Truth, Group, Elements, Linear}

-- a place that takes no variable
abbrev pub number_in : Value → Outcome Rational
number_in (Scalar s) = number_of s
number_in (Linear f) = Err Nonlinear
number_in _ = Err NotANumber

abbrev pub symbol_in : Value → Outcome Symbol
symbol_in (Scalar s) = Ok s
symbol_in (Linear f) = Err Nonlinear
symbol_in _ = Err NotANumber

-- a number is true where it isn't 0
abbrev pub truth_in : Value → Outcome Bool
truth_in (Truth b) = Ok b
truth_in (Scalar s) = truth_of s
truth_in (Linear f) = Err Nonlinear
truth_in _ = Err NotANumber

abbrev pub set_in : Value → Outcome Set
set_in (Elements s) = Ok s
set_in _ = Err NotANumber

-- an element of a set: a symbol is a tuple of one component
abbrev pub tuple_in : Value → Outcome (List Symbol)
tuple_in (Scalar s) = Ok (s ∷ [])
tuple_in (Group t) = Ok t
tuple_in (Linear f) = Err Nonlinear
tuple_in _ = Err NotANumber

-- a place that takes variables
abbrev pub amount_in : Value → Outcome Amount
amount_in (Scalar s) = then_do (λ q. Ok (amount.Number q)) (number_of s)
amount_in (Linear f) = Ok (amount.Form f)
amount_in _ = Err NotANumber

abbrev pub of_number : Rational → Value
of_number q = Scalar (Number q)

abbrev pub of_amount : Amount → Value
of_amount (amount.Number q) = of_number q
of_amount (amount.Form f) = Linear f

abbrev pub as_value : Outcome Amount → Outcome Value
as_value = then_do (λ a. Ok (of_amount a))

abbrev pub as_number : Outcome Rational → Outcome Value
as_number = then_do (λ q. Ok (of_number q))

abbrev pub as_truth : Outcome Bool → Outcome Value
as_truth = then_do (λ b. Ok (Truth b))

abbrev pub as_elements : Result Set SetFault → Outcome Value
as_elements (Ok s) = Ok (Elements s)
as_elements (Err f) = Err (as_eval_fault f)
