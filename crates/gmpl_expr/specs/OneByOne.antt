-- An iteration that goes over its elements one by one, the last entry fastest: the value so far, and no list of elements.
use Rattle.std.specs.Prelude.{Option, Some, None, Ok, List, [], ◌∷◌, ◌++◌, if◌then◌else◌}
use Rattle.gmpl_syntax.specs.declared.expression.Iteration.{Iteration}
use Rattle.gmpl_value.specs.declared.symbol.Symbol.{Symbol}
use Rattle.gmpl_value.specs.Sets.{Elements as Set}
use Rattle.gmpl_value.specs.Outcome.{Outcome, then_do}
use Rattle.gmpl_operations.specs.declared.value.Value.{Value}
use Rattle.gmpl_operations.specs.Iterations.{joined, is_decided}
use Rattle.gmpl_operations.specs.Patterns.{Pattern, matched}
use Rattle.gmpl_meaning.specs.Parts.{Bindings, Meant, MeantEntry}
use Rattle.gmpl_meaning.specs.Walks.{entry_value, holds}

-- the value so far, or the first fault
abbrev pub SoFar : Type 0
SoFar = Outcome (Option Value)

-- what goes on from the indices in scope and the value so far
abbrev pub GoingOn : Type 0
GoingOn = Bindings → Option Value → SoFar

-- the indices in scope, and behind them new ones
abbrev pub inner : Bindings → Option (List Symbol) → Option Bindings
inner b None = None
inner b (Some new) = Some (b ++ new)

module _ (iteration : Iteration) (condition : Option Meant) (body : Meant) where
  -- with the value of the body
  abbrev pub with_body : GoingOn
  with_body b total = then_do (joined iteration total) (body.value b)

  abbrev pub if_holds : GoingOn → Option Meant → GoingOn
  if_holds go None b total = go b total
  if_holds go (Some c) b total = then_do (λ t. if t then go b total else Ok total) (holds c b)

  -- an element
  abbrev pub at_element : GoingOn
  at_element = if_holds with_body condition

  -- where a tuple matches
  abbrev pub at_inner : GoingOn → Option Bindings → Option Value → SoFar
  at_inner go None total = Ok total
  at_inner go (Some b) total = go b total

  -- the tuples of an entry's set, up to where the value is decided
  abbrev pub over_tuples : GoingOn → Bindings → Pattern → Set → Option Value → SoFar
  over_tuples go b p [] total = Ok total
  over_tuples go b p (t ∷ ts) total =
      if is_decided iteration total then Ok total else then_do (over_tuples go b p ts) (at_inner go (inner b (matched p t)) total)

  -- the entries that are left
  abbrev pub over_entries : List MeantEntry → GoingOn
  over_entries [] b total = at_element b total
  over_entries (entry ∷ entries) b total = then_do (λ v. over_tuples (over_entries entries) b v.pattern v.set total) (entry_value entry b)
