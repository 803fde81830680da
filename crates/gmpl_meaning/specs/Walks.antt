-- What an indexing expression goes over (GNU MathProg Language Reference, section on indexing expressions): its elements in order,
-- the last entry fastest, up to the first fault.
use Rattle.std.specs.Prelude.{Bool, true, false, Option, Some, None, Result, Ok, Err, List, [], ◌∷◌, ◌++◌, if◌then◌else◌}
use Rattle.gmpl_value.specs.declared.symbol.Symbol.{Symbol}
use Rattle.gmpl_value.specs.Sets.{Elements as Set}
use Rattle.gmpl_value.specs.declared.eval_fault.EvalFault.{EvalFault}
use Rattle.gmpl_value.specs.Outcome.{Outcome, then_do}
use Rattle.gmpl_operations.specs.declared.value.Value.{Value}
use Rattle.gmpl_operations.specs.Values.{symbol_in, truth_in, set_in}
use Rattle.gmpl_operations.specs.Patterns.{Pattern, matched}
use Rattle.gmpl_meaning.specs.declared.walk.EntryValue.{EntryValue}
use Rattle.gmpl_meaning.specs.declared.walk.Element.{Element}
use Rattle.gmpl_meaning.specs.declared.walk.Walk.{Walk}
use Rattle.gmpl_meaning.specs.Parts.{Bindings, Meaning, Meant, MeantComponent, MeantEntry, MeantIndexing}

abbrev pub walk : List Element → Option EvalFault → Walk
walk elements fault = record { elements = elements; fault = fault }

abbrev pub element : List Symbol → List Symbol → Element
element indices tuple = record { indices = indices; tuple = tuple }

-- ---- an entry: its pattern, then its set

abbrev pub component_value : MeantComponent → Bindings → Outcome (Option Symbol)
component_value None b = Ok None
component_value (Some x) b = then_do (λ s. Ok (Some s)) (then_do symbol_in (x.value b))

abbrev pub component_values : List (Option Symbol) → List MeantComponent → Bindings → Outcome (List (Option Symbol))
component_values found [] b = Ok found
component_values found (x ∷ xs) b = then_do (λ s. component_values (found ++ s ∷ []) xs b) (component_value x b)

abbrev pub pattern : Option (List MeantComponent) → Bindings → Outcome Pattern
pattern None b = Ok None
pattern (Some xs) b = then_do (λ p. Ok (Some p)) (component_values [] xs b)

abbrev pub entry_set : Meant → Bindings → Outcome Set
entry_set x b = then_do set_in (x.value b)

-- ---- what is found so far, an entry more

abbrev pub with_match : List Element → Element → List Symbol → Option (List Symbol) → List Element
with_match found x tuple None = found
with_match found x tuple (Some new) = found ++ element (x.indices ++ new) (x.tuple ++ tuple) ∷ []

-- an element with each tuple of a set that matches
abbrev pub with_matches : List Element → Element → Pattern → Set → List Element
with_matches found x p [] = found
with_matches found x p (t ∷ ts) = with_matches (with_match found x t (matched p t)) x p ts

-- an entry's pattern, and then its set
abbrev pub entry_value : MeantEntry → Bindings → Outcome EntryValue
entry_value entry b = then_do (λ p. then_do (λ s. Ok (record { pattern = p; set = s })) (entry_set entry.set b)) (pattern entry.index b)

-- what goes on behind the elements so far, or ends there
abbrev pub unless_fault : {A : Type 0} → List Element → Outcome A → (A → Walk) → Walk
unless_fault found (Ok a) go = go a
unless_fault found (Err fault) go = walk found (Some fault)

-- each element with those of the next entry
abbrev pub extended : MeantEntry → Bindings → List Element → List Element → Option EvalFault → Walk
extended entry b found [] fault = walk found fault
extended entry b found (x ∷ xs) fault =
    unless_fault found (entry_value entry (b ++ x.indices)) (λ v. extended entry b (with_matches found x v.pattern v.set) xs fault)

abbrev pub over_entries : List MeantEntry → Bindings → Walk → Walk
over_entries [] b w = w
over_entries (entry ∷ entries) b w = over_entries entries b (extended entry b [] w.elements w.fault)

-- ---- the condition

abbrev pub kept_by : List Element → Element → Bool → List Element
kept_by found x holds = if holds then found ++ x ∷ [] else found

abbrev pub holds : Meant → Bindings → Outcome Bool
holds condition b = then_do truth_in (condition.value b)

-- the elements for which a condition holds
abbrev pub filtered : Meant → Bindings → List Element → List Element → Option EvalFault → Walk
filtered condition b found [] fault = walk found fault
filtered condition b found (x ∷ xs) fault =
    unless_fault found (holds condition (b ++ x.indices)) (λ t. filtered condition b (kept_by found x t) xs fault)

abbrev pub under : Option Meant → Bindings → Walk → Walk
under None b w = w
under (Some condition) b w = filtered condition b [] w.elements w.fault

-- before the first entry
abbrev pub start : Walk
start = walk (element [] [] ∷ []) None

abbrev pub walked : MeantIndexing → Bindings → Walk
walked indexing b = under indexing.condition b (over_entries indexing.entries b start)
