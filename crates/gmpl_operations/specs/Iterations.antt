-- What goes over the elements of an indexing expression: from nothing so far, one value after another.
use Rattle.std.specs.Prelude.{Bool, true, false, Option, Some, None, Ok, Err, List, [], ◌∷◌}
use Rattle.rational.specs.Rational.{zero_ℚ, one_ℚ}
use Rattle.gmpl_syntax.specs.declared.expression.Iteration.{Iteration}
use Rattle.gmpl_syntax.specs.declared.expression.Iteration.TheVariants as i
use Rattle.gmpl_syntax.specs.declared.expression.Operator.TheVariants as o
use Rattle.gmpl_value.specs.declared.symbol.Symbol.{Symbol}
use Rattle.gmpl_value.specs.Sets.{Elements as Set, with_element}
use Rattle.gmpl_value.specs.declared.eval_fault.EvalFault.TheVariants.{NoValue}
use Rattle.gmpl_value.specs.Outcome.{Outcome, then_do}
use Rattle.gmpl_functions.specs.Numbers.{greater_of, lesser_of}
use Rattle.gmpl_operations.specs.declared.value.Value.{Value}
use Rattle.gmpl_operations.specs.declared.value.Value.TheVariants.{Truth, Elements}
use Rattle.gmpl_operations.specs.Values.{number_in, set_in, tuple_in, of_number, as_number, as_elements}
use Rattle.gmpl_operations.specs.Operators.{taken, decides, applied}

-- a set with one more element
abbrev pub with_tuple : Value → Value → Outcome Value
with_tuple total v = then_do (λ t. then_do (λ s. as_elements (with_element s t)) (set_in total)) (tuple_in v)

abbrev pub greater_value : Value → Value → Outcome Value
greater_value total v = then_do (λ p. then_do (λ q. Ok (of_number (greater_of p q))) (number_in v)) (number_in total)

abbrev pub lesser_value : Value → Value → Outcome Value
lesser_value total v = then_do (λ p. then_do (λ q. Ok (of_number (lesser_of p q))) (number_in v)) (number_in total)

-- a factor of `prod` is a number: a variable may not stand there
abbrev pub factor : Value → Outcome Value
factor v = as_number (number_in v)

abbrev pub multiplied : Value → Value → Outcome Value
multiplied total v = then_do (λ f. applied o.Times total f) (factor v)

-- the first value: as the operator that it stands for takes it
abbrev pub first : Iteration → Value → Outcome Value
first i.Sum v = taken o.Plus v
first i.Prod v = factor v
first i.Min v = taken o.Less v
first i.Max v = taken o.Less v
first i.Setof v = with_tuple (Elements []) v
first i.Forall v = taken o.And v
first i.Exists v = taken o.Or v

-- one value more
abbrev pub next : Iteration → Value → Value → Outcome Value
next i.Sum total v = applied o.Plus total v
next i.Prod total v = multiplied total v
next i.Min total v = lesser_value total v
next i.Max total v = greater_value total v
next i.Setof total v = with_tuple total v
next i.Forall total v = applied o.And total v
next i.Exists total v = applied o.Or total v

abbrev pub joined_by : Iteration → Option Value → Value → Outcome Value
joined_by iteration None v = first iteration v
joined_by iteration (Some total) v = next iteration total v

-- the value so far with one more
abbrev pub joined : Iteration → Option Value → Value → Outcome (Option Value)
joined iteration total v = then_do (λ t. Ok (Some t)) (joined_by iteration total v)

-- whether what is left can't change it: `forall` behind what is false, `exists` behind what is true
abbrev pub is_decided : Iteration → Option Value → Bool
is_decided i.Forall (Some total) = decides o.And total
is_decided i.Exists (Some total) = decides o.Or total
is_decided _ _ = false

-- over nothing
abbrev pub empty : Iteration → Outcome Value
empty i.Sum = Ok (of_number zero_ℚ)
empty i.Prod = Ok (of_number one_ℚ)
empty i.Min = Err NoValue
empty i.Max = Err NoValue
empty i.Setof = Ok (Elements [])
empty i.Forall = Ok (Truth true)
empty i.Exists = Ok (Truth false)

abbrev pub ended : Iteration → Option Value → Outcome Value
ended iteration None = empty iteration
ended iteration (Some total) = Ok total
