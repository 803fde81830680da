-- Operators between two parts of a chain. The left operand is taken before the right one is evaluated.
use Rattle.std.specs.Prelude.{Bool, true, false, Ok, Err}
use Rattle.rational.specs.Rational.{Rational}
use Rattle.gmpl_syntax.specs.declared.expression.Operator.{Operator}
use Rattle.gmpl_syntax.specs.declared.expression.Operator.TheVariants as o
use Rattle.gmpl_value.specs.Sets.{Elements as Set, union_of, diff_of, symdiff_of, inter_of, cross_of}
use Rattle.gmpl_value.specs.declared.eval_fault.EvalFault.TheVariants.{NotANumber}
use Rattle.gmpl_value.specs.Outcome.{Outcome, then_do}
use Rattle.gmpl_functions.specs.Numbers.{less_of, div_of, mod_of}
use Rattle.gmpl_functions.specs.Strings.{joined_texts}
use Rattle.gmpl_functions.specs.declared.amount.Amount.{Amount}
use Rattle.gmpl_functions.specs.declared.terms.Sign.TheVariants as sign
use Rattle.gmpl_functions.specs.Amounts.{sum_of, product_of, ratio_of}
use Rattle.gmpl_operations.specs.declared.value.Value.{Value}
use Rattle.gmpl_operations.specs.declared.value.Value.TheVariants.{Scalar, Truth, Elements}
use Rattle.gmpl_operations.specs.Values.{number_in, symbol_in, truth_in, set_in, amount_in, as_value, as_number, as_truth, as_elements}

-- the left operand, as its operator takes it: variables stand beside + - * and / alone
abbrev pub taken : Operator → Value → Outcome Value
taken o.Or v = as_truth (truth_in v)
taken o.And v = as_truth (truth_in v)
taken o.Union v = then_do (λ s. Ok (Elements s)) (set_in v)
taken o.Diff v = then_do (λ s. Ok (Elements s)) (set_in v)
taken o.Symdiff v = then_do (λ s. Ok (Elements s)) (set_in v)
taken o.Inter v = then_do (λ s. Ok (Elements s)) (set_in v)
taken o.Cross v = then_do (λ s. Ok (Elements s)) (set_in v)
taken o.Join v = then_do (λ s. Ok (Scalar s)) (symbol_in v)
taken o.Plus v = as_value (amount_in v)
taken o.Minus v = as_value (amount_in v)
taken o.Times v = as_value (amount_in v)
taken o.Over v = as_value (amount_in v)
taken o.Less v = as_number (number_in v)
taken o.Div v = as_number (number_in v)
taken o.Mod v = as_number (number_in v)

-- whether the left operand decides, so that the right one is not evaluated
abbrev pub decides : Operator → Value → Bool
decides o.Or (Truth b) = b
decides o.And (Truth true) = false
decides o.And (Truth false) = true
decides _ _ = false

abbrev pub on_sets : Operator → Set → Set → Outcome Value
on_sets o.Union s t = as_elements (union_of s t)
on_sets o.Diff s t = as_elements (diff_of s t)
on_sets o.Symdiff s t = as_elements (symdiff_of s t)
on_sets o.Inter s t = as_elements (inter_of s t)
on_sets o.Cross s t = as_elements (cross_of s t)
on_sets _ s t = Err NotANumber

abbrev pub on_amounts : Operator → Amount → Amount → Outcome Value
on_amounts o.Plus a b = as_value (sum_of sign.Plus a b)
on_amounts o.Minus a b = as_value (sum_of sign.Minus a b)
on_amounts o.Times a b = as_value (product_of a b)
on_amounts o.Over a b = as_value (ratio_of a b)
on_amounts _ a b = Err NotANumber

abbrev pub on_numbers : Operator → Rational → Rational → Outcome Value
on_numbers o.Less p q = as_number (less_of p q)
on_numbers o.Div p q = as_number (div_of p q)
on_numbers o.Mod p q = as_number (mod_of p q)
on_numbers _ p q = Err NotANumber

abbrev pub sets : Operator → Value → Value → Outcome Value
sets operator left right = then_do (λ s. then_do (λ t. on_sets operator s t) (set_in right)) (set_in left)

abbrev pub amounts : Operator → Value → Value → Outcome Value
amounts operator left right = then_do (λ a. then_do (λ b. on_amounts operator a b) (amount_in right)) (amount_in left)

abbrev pub numbers : Operator → Value → Value → Outcome Value
numbers operator left right = then_do (λ p. then_do (λ q. on_numbers operator p q) (number_in right)) (number_in left)

abbrev pub texts : Value → Value → Outcome Value
texts left right = then_do (λ s. then_do (λ t. Ok (Scalar (joined_texts s t))) (symbol_in right)) (symbol_in left)

abbrev pub truths : Value → Outcome Value
truths right = as_truth (truth_in right)

-- an operator on two values, where the left one doesn't decide
abbrev pub applied : Operator → Value → Value → Outcome Value
applied o.Or left right = truths right
applied o.And left right = truths right
applied o.Union left right = sets o.Union left right
applied o.Diff left right = sets o.Diff left right
applied o.Symdiff left right = sets o.Symdiff left right
applied o.Inter left right = sets o.Inter left right
applied o.Cross left right = sets o.Cross left right
applied o.Join left right = texts left right
applied o.Plus left right = amounts o.Plus left right
applied o.Minus left right = amounts o.Minus left right
applied o.Times left right = amounts o.Times left right
applied o.Over left right = amounts o.Over left right
applied o.Less left right = numbers o.Less left right
applied o.Div left right = numbers o.Div left right
applied o.Mod left right = numbers o.Mod left right
