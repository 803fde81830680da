-- What is asked of the values of a parameter, without the value.
use Rattle.std.specs.Prelude.{Bool, List}
use Rattle.gmpl_resolved.specs.declared.statement.Attribute.{Attribute}
use Rattle.gmpl_resolved.specs.declared.statement.Numbered.{Numbered}
use Rattle.gmpl_value.specs.declared.symbol.Symbol.{Symbol}
use Rattle.gmpl_value.specs.Outcome.{Outcome, then_do}
use Rattle.gmpl_meaning.specs.Parts.{Bindings, Demanding}
use Rattle.gmpl_meaning.specs.Restrictions.{all_allow, memberships_hold, relations_hold, where_true}

abbrev pub all_hold : List Numbered → Demanding → Bindings → Bool → List Attribute → Symbol → Outcome (Unit {0})
all_hold statements demand b symbolic xs s =
    then_do (λ _. then_do (λ _. memberships_hold statements demand b xs s) (relations_hold statements demand b symbolic xs s)) (where_true (all_allow xs s))
