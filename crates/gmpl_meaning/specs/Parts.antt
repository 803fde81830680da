-- What the parts of an expression mean: what each comes to where the indices in scope have these values.
use Rattle.std.specs.Prelude.{ℕ, Bool, true, false, Option, Some, None, List, [], ◌∷◌}
use Rattle.gmpl_syntax.specs.declared.expression.Operator.{Operator}
use Rattle.gmpl_syntax.specs.declared.expression.Suffix.{Suffix}
use Rattle.gmpl_value.specs.declared.symbol.Symbol.{Symbol}
use Rattle.gmpl_value.specs.Outcome.{Outcome}
use Rattle.gmpl_operations.specs.declared.value.Value.{Value}

-- the values of the indices in scope, the outermost first
abbrev pub Bindings : Type 0
Bindings = List Symbol

abbrev pub Meaning : Type 0
Meaning = Bindings → Outcome Value

-- what a member comes to, or the number of its that a suffix asks for, by the place of its object and its subscripts
abbrev pub Demanding : Type 0
Demanding = ℕ → Option Suffix → List Symbol → Outcome Value

-- an expression: whether it is a set, and what it comes to
pub record Meant : Type 0 where
  pub is_set : Bool
  pub value : Meaning

-- a component of an index: what the element's must equal, and nothing of a new index
abbrev pub MeantComponent : Type 0
MeantComponent = Option Meant

pub record MeantEntry : Type 0 where
  pub index : Option (List MeantComponent)
  pub set : Meant

pub record MeantIndexing : Type 0 where
  pub entries : List MeantEntry
  pub condition : Option Meant

-- a part of a chain, and the operator before it
pub record MeantLink : Type 0 where
  pub operator : Operator
  pub operand : Meant

abbrev pub meant : Bool → Meaning → Meant
meant is_set value = record { is_set = is_set; value = value }
