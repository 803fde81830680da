-- What data give to the objects of a model (GNU MathProg Language Reference, chapter on model data).
use Rattle.std.specs.Prelude.{ℕ, Bool, false, List, slice_get, Option, Some, None}
use Rattle.gmpl_value.specs.declared.symbol.Symbol.{Symbol}
use Rattle.gmpl_value.specs.Sets.{is_member}
use Rattle.gmpl_members.specs.declared.value.Value.{Value}
use Rattle.gmpl_members.specs.Table.{value_of}
use Rattle.gmpl_resolved.specs.declared.statement.Numbered.{Numbered}
use Rattle.gmpl_data.specs.declared.tables.Given.{Given}
use Rattle.gmpl_data.specs.declared.tables.LoadedModel.{LoadedModel}

abbrev pub statement_at : LoadedModel → ℕ → Option Numbered
statement_at model place = slice_get model.statements place

abbrev pub given_at : LoadedModel → ℕ → Option Given
given_at model place = slice_get model.tables.objects place

abbrev pub value_by : Option Given → List Symbol → Option Value
value_by None subscripts = None
value_by (Some given) subscripts = value_of given.values subscripts

-- the value that data give to a member
abbrev pub value_given : LoadedModel → ℕ → List Symbol → Option Value
value_given model place subscripts = value_by (given_at model place) subscripts

abbrev pub overfull_by : Option Given → List Symbol → Bool
overfull_by None subscripts = false
overfull_by (Some given) subscripts = is_member given.overfull subscripts

-- whether data give a set's member more elements than a set may have
abbrev pub is_overfull : LoadedModel → ℕ → List Symbol → Bool
is_overfull model place subscripts = overfull_by (given_at model place) subscripts

abbrev pub default_by : Option Given → Option Symbol
default_by None = None
default_by (Some given) = given.default

-- the default that data give to a parameter
abbrev pub default_given : LoadedModel → ℕ → Option Symbol
default_given model place = default_by (given_at model place)
