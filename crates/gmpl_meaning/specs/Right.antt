-- What is kept of a model is right: it is what the definition gives, evaluated anew.
use Rattle.std.specs.Prelude.{◌≡◌, ℕ, Bool, Option, Some, None, Ok, Err, List, [], ◌∷◌, nat_eq}
use Rattle.std.specs.List.{AllByRecursion}
use Rattle.indexmap.specs.IndexMap.{insert_entry}
use Rattle.rational.specs.Rational.{one_ℚ, zero_ℚ}
use Rattle.gmpl_resolved.specs.declared.expression.Expr.{Expr}
use Rattle.gmpl_data.specs.declared.tables.LoadedModel.{LoadedModel}
use Rattle.gmpl_data.specs.Given.{statement_at}
use Rattle.gmpl_value.specs.declared.eval_fault.EvalFault.TheVariants.{NoValue}
use Rattle.gmpl_value.specs.Outcome.{Outcome}
use Rattle.gmpl_functions.specs.declared.variable.Variable.{Variable}
use Rattle.gmpl_functions.specs.Linear.{linear, variable_eq}
use Rattle.gmpl_operations.specs.declared.value.Value.{Value}
use Rattle.gmpl_operations.specs.declared.value.Value.TheVariants as values
use Rattle.gmpl_meaning.specs.declared.bounds.Bounds.{Bounds}
use Rattle.gmpl_meaning.specs.Members.{bounds_at, member}
use Rattle.gmpl_meaning.specs.Parts.{Bindings}
use Rattle.gmpl_meaning.specs.Expressions.{meaning, range_by}
use Rattle.gmpl_meaning.specs.Written.{entry_set, restriction}
use Rattle.gmpl_meaning.specs.contracts.asked.AskedPartialEq.TheImpl as impl
use Rattle.gmpl_meaning.specs.declared.asked.Asked.{Asked}
use Rattle.gmpl_meaning.specs.declared.asked.Asked.TheVariants as asked
use Rattle.gmpl_meaning.specs.declared.value.Alone.{Alone}
use Rattle.gmpl_meaning.specs.declared.value.KeptValue.{KeptValue}
use Rattle.gmpl_meaning.specs.declared.value.KeptValue.TheVariants as kept

-- values by what was asked for, those of members without subscripts by the places of their objects, and the bounds of variables' members
pub record Table : Type 0 where
  pub values : List (Asked × KeptValue)
  pub alone : List (ℕ × Alone)
  pub bounds : List (Variable × Bounds)

abbrev pub nothing_kept : Table
nothing_kept = record { values = []; alone = []; bounds = [] }

abbrev pub asked_eq : Asked → Asked → Bool
asked_eq = (impl.ghosts).eq

abbrev pub with_value : Table → Asked → KeptValue → Table
with_value k asked value = record { values = insert_entry asked_eq k.values asked value; alone = k.alone; bounds = k.bounds }

abbrev pub with_alone : Table → ℕ → Alone → Table
with_alone k place alone = record { values = k.values; alone = insert_entry nat_eq k.alone place alone; bounds = k.bounds }

abbrev pub with_bounds : Table → Variable → Bounds → Table
with_bounds k variable bounds = record { values = k.values; alone = k.alone; bounds = insert_entry variable_eq k.bounds variable bounds }

-- a variable's member stands for its form
abbrev pub value_seen : KeptValue → Value
value_seen (kept.Scalar s) = values.Scalar s
value_seen (kept.Elements set) = values.Elements set.value
value_seen (kept.Variable v) = values.Linear (linear ((v, one_ℚ) ∷ []) zero_ℚ)
value_seen (kept.Other v) = v

-- what an expression comes to where the indices in scope have these values
abbrev pub in_scope : LoadedModel → ℕ → Bindings → Option Expr → Outcome Value
in_scope model height b None = Err NoValue
in_scope model height b (Some x) = (meaning model.statements (member model height) x).value b

-- what is asked for, evaluated anew: a member without suffix, a range, or a set that stands in a declaration
abbrev pub anew : LoadedModel → Asked → Outcome Value
anew model (asked.Member place height subscripts) = member model height place None subscripts
anew model (asked.Range from to by) = range_by from to by
anew model (asked.Entry place number height b) = in_scope model height b (entry_set (statement_at model place) number)
anew model (asked.Restriction place number height b) = in_scope model height b (restriction (statement_at model place) number)

abbrev pub IsRight : LoadedModel → Asked × KeptValue → Type 0
IsRight model entry = anew model entry.0 ≡ Ok (value_seen entry.1)

abbrev pub IsAlone : LoadedModel → ℕ × Alone → Type 0
IsAlone model entry = member model entry.1.height entry.0 None [] ≡ Ok (value_seen entry.1.value)

-- bounds of a member that is the first in the chain of demands
abbrev pub HasBounds : LoadedModel → Variable × Bounds → Type 0
HasBounds model entry = bounds_at model entry.0.statement entry.0.subscripts ≡ Ok entry.1

pub record AreRight (model : LoadedModel) (k : Table) : Type 0 where
  pub values_are : AllByRecursion (IsRight model) k.values
  pub alone_are : AllByRecursion (IsAlone model) k.alone
  pub bounds_are : AllByRecursion (HasBounds model) k.bounds
