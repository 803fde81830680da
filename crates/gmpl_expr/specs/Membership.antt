-- Whether one expression is an element of another, a set.
use Rattle.std.specs.Prelude.{Bool, Ok}
use Rattle.gmpl_value.specs.Sets.{is_member}
use Rattle.gmpl_value.specs.Outcome.{Outcome, then_do}
use Rattle.gmpl_operations.specs.Values.{tuple_in}
use Rattle.gmpl_meaning.specs.Parts.{Bindings, Meant}
use Rattle.gmpl_meaning.specs.Walks.{entry_set}

abbrev pub is_element : Meant → Meant → Bindings → Outcome Bool
is_element left right b = then_do (λ t. then_do (λ s. Ok (is_member s t)) (entry_set right b)) (then_do tuple_in (left.value b))
