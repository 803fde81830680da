-- Members with their values, in the order in which they were first given one.
use Rattle.std.specs.Prelude.{List}
use Rattle.std.specs.declared.option.Option.{Option}
use Rattle.std.specs.Map.{lookup}
use Rattle.indexmap.specs.IndexMap.{insert_entry}
use Rattle.gmpl_value.specs.declared.symbol.Symbol.{Symbol}
use Rattle.gmpl_value.specs.SymbolEquality.{tuple_eq}
use Rattle.gmpl_members.specs.declared.value.Value.{Value}

abbrev pub Table : Type 0
Table = List (List Symbol × Value)

-- the value of the member with these subscripts
abbrev pub value_of : Table → List Symbol → Option Value
value_of table subscripts = lookup (tuple_eq subscripts) table

-- a new member stands at the end, one that is there gets the value in its place
abbrev pub with_value : Table → List Symbol → Value → Table
with_value table subscripts value = insert_entry tuple_eq table subscripts value
