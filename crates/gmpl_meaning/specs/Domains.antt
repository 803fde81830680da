-- Whether subscripts lie in a domain, entry by entry, and the values that they give to its indices.
use Rattle.std.specs.Prelude.{ℕ, Bool, true, false, Option, Some, None, Ok, Err, List, [], ◌∷◌, ◌++◌, length, take, drop, if◌then◌else◌}
use Rattle.gmpl_resolved.specs.declared.expression.Indexing.{Indexing}
use Rattle.gmpl_resolved.specs.declared.statement.Numbered.{Numbered}
use Rattle.gmpl_value.specs.declared.symbol.Symbol.{Symbol}
use Rattle.gmpl_value.specs.Sets.{Elements as Set, is_member}
use Rattle.gmpl_value.specs.declared.eval_fault.EvalFault.TheVariants.{OutOfDomain}
use Rattle.gmpl_value.specs.Outcome.{Outcome, then_do}
use Rattle.gmpl_operations.specs.Patterns.{Pattern, matched}
use Rattle.gmpl_meaning.specs.Parts.{Bindings, Demanding, Meant, MeantEntry, MeantIndexing}
use Rattle.gmpl_meaning.specs.declared.walk.EntryValue.{EntryValue}
use Rattle.gmpl_meaning.specs.Walks.{entry_value, holds}
use Rattle.gmpl_meaning.specs.Expressions.{indexing_meaning}

-- how many subscripts an entry takes: as many as its index has components, else as its set's elements have
abbrev pub width : Pattern → Set → ℕ
width (Some p) set = length p
width None [] = 1
width None (t ∷ ts) = length t

-- the values of an entry's new indices, where these subscripts are an element that matches
abbrev pub indices_of : Pattern → Set → List Symbol → Option (List Symbol)
indices_of p set subscripts = if is_member set subscripts then matched p subscripts else None

-- the subscripts that are left, and the indices in scope behind an entry
abbrev pub within_by : Bindings → List Symbol → Option (List Symbol) → Outcome (Bindings × List Symbol)
within_by b rest None = Err OutOfDomain
within_by b rest (Some new) = Ok (b ++ new, rest)

abbrev pub within_value : Bindings → List Symbol → EntryValue → Outcome (Bindings × List Symbol)
within_value b subscripts v =
    within_by b (drop (width v.pattern v.set) subscripts) (indices_of v.pattern v.set (take (width v.pattern v.set) subscripts))

abbrev pub within_entry : MeantEntry → Bindings → List Symbol → Outcome (Bindings × List Symbol)
within_entry entry b subscripts = then_do (within_value b subscripts) (entry_value entry b)

abbrev pub within_entries : List MeantEntry → Bindings → List Symbol → Outcome Bindings
within_entries [] b subscripts = Ok b
within_entries (entry ∷ entries) b subscripts = then_do (λ r. within_entries entries r.0 r.1) (within_entry entry b subscripts)

abbrev pub under_condition : Option Meant → Bindings → Outcome Bindings
under_condition None b = Ok b
under_condition (Some condition) b = then_do (λ t. if t then Ok b else Err OutOfDomain) (holds condition b)

abbrev pub within_indexing : MeantIndexing → List Symbol → Outcome Bindings
within_indexing indexing subscripts = then_do (under_condition indexing.condition) (within_entries indexing.entries [] subscripts)

-- the values that subscripts give to the indices of a domain, or OutOfDomain
abbrev pub within_domain : List Numbered → Demanding → Option Indexing → List Symbol → Outcome Bindings
within_domain statements demand None subscripts = Ok []
within_domain statements demand (Some domain) subscripts = within_indexing (indexing_meaning statements demand domain) subscripts
