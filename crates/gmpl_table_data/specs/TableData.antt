-- What a table adds to the data of a model (GNU MathProg Language Reference, section on the table statement).
use Rattle.std.specs.Prelude.{ℕ, ◌+◌, ◌||◌, Bool, true, false, is_some, List, [], ◌∷◌, map, set, slice_get, Option, Some, None, Result, Ok, Err, if◌then◌else◌}
use Rattle.gmpl_value.specs.declared.symbol.Symbol.{Symbol}
use Rattle.gmpl_value.specs.declared.fault.SetFault.{SetFault}
use Rattle.gmpl_value.specs.Sets.{Elements as ElementList, is_member, with_element}
use Rattle.gmpl_members.specs.declared.value.Value.TheVariants.{Scalar, Elements}
use Rattle.gmpl_members.specs.Table.{Table as Members, value_of, with_value}
use Rattle.gmpl_resolved.specs.declared.statement.InputColumn.{InputColumn}
use Rattle.gmpl_resolved.specs.declared.statement.TableInput.{TableInput}
use Rattle.gmpl_data.specs.declared.tables.Given.{Given}
use Rattle.csv_tables.specs.declared.fault.TableFault.TheVariants.{TwiceKey}
use Rattle.csv_tables.specs.Outcome.{Outcome, then_do}
use Rattle.csv_tables.specs.Reading.{Rows, table_of}
use Rattle.gmpl_table_data.specs.declared.sets.Joined.{Joined}

-- what is given to each object, by its place
abbrev pub Tables : Type 0
Tables = List Given

-- what is given to the object at a place, changed; where data have no entry for it, as no data of a model do, all stays as it is
abbrev pub changed : ℕ → (Given → Outcome Given) → Tables → Option Given → Outcome Tables
changed place change tables None = Ok tables
changed place change tables (Some given) = then_do (λ more. Ok (set tables place more)) (change given)

abbrev pub change_at : ℕ → (Given → Outcome Given) → Tables → Outcome Tables
change_at place change tables = changed place change tables (slice_get tables place)

-- ---- the set

-- with one more key, or marked where a set can't have so many
abbrev pub with_more : Joined → Result ElementList SetFault → Joined
with_more before (Ok elements) = record { elements = elements; is_overfull = before.is_overfull }
with_more before (Err fault) = record { elements = before.elements; is_overfull = true }

abbrev pub with_key : List Symbol → Joined → Joined
with_key key before = with_more before (with_element before.elements key)

abbrev pub no_keys : Joined
no_keys = record { elements = []; is_overfull = false }

-- with the keys of these rows in their order
abbrev pub with_keys : Rows → Joined → Joined
with_keys [] before = before
with_keys (row ∷ rows) before = with_keys rows (with_key row.0 before)

-- whether data give the set's member without subscripts its elements
abbrev pub has_elements : Given → Bool
has_elements given = is_some (value_of given.values []) || is_member given.overfull []

abbrev pub added : ElementList → Result ElementList SetFault → ElementList
added before (Ok more) = more
added before (Err fault) = before

abbrev pub noted : Bool → ElementList → ElementList
noted false overfull = overfull
noted true overfull = added overfull (with_element overfull [])

abbrev pub with_elements : Joined → Given → Given
with_elements now given = record {
  values = with_value given.values [] (Elements now.elements);
  overfull = noted now.is_overfull given.overfull;
  default = given.default;
}

-- the keys are its elements
unfoldable pub set_given : Rows → Given → Outcome Given
set_given rows given = if has_elements given then Err TwiceKey else Ok (with_elements (with_keys rows no_keys) given)

abbrev pub keys_given : Option ℕ → Rows → Tables → Outcome Tables
keys_given None rows tables = Ok tables
keys_given (Some place) rows tables = change_at place (set_given rows) tables

-- ---- the parameters

-- a member is given its value once
abbrev pub with_new : List Symbol → Symbol → Members → Outcome Members
with_new key value members = if is_some (value_of members key) then Err TwiceKey else Ok (with_value members key (Scalar value))

abbrev pub with_values : Given → Members → Given
with_values given members = record { values = members; overfull = given.overfull; default = given.default }

unfoldable pub parameter_given : List Symbol → Symbol → Given → Outcome Given
parameter_given key value given = then_do (λ members. Ok (with_values given members)) (with_new key value given.values)

-- a row has a value for each column
abbrev pub value_given : ℕ → List Symbol → Option Symbol → Tables → Outcome Tables
value_given parameter key None tables = Ok tables
value_given parameter key (Some value) tables = change_at parameter (parameter_given key value) tables

-- the values of a row in these columns from the left, behind so many others, each to its parameter's member at the row's key
abbrev pub row_given : ℕ → List InputColumn → List Symbol × List Symbol → Tables → Outcome Tables
row_given before [] row tables = Ok tables
row_given before (column ∷ columns) row tables =
    then_do (row_given (before + 1) columns row) (value_given column.parameter row.0 (slice_get row.1 before) tables)

abbrev pub rows_given : List InputColumn → Rows → Tables → Outcome Tables
rows_given columns [] tables = Ok tables
rows_given columns (row ∷ rows) tables = then_do (rows_given columns rows) (row_given 0 columns row tables)

-- ---- the table

unfoldable pub with_rows : TableInput → Tables → Rows → Outcome Tables
with_rows input tables rows = then_do (rows_given input.columns rows) (keys_given input.set rows tables)

-- the data with the keys as the elements of the set and the values of the columns, or the first fault
unfoldable pub with_table : TableInput → List ℕ → Tables → Outcome Tables
with_table input text tables = then_do (with_rows input tables) (table_of text input.keys (map (λ column. column.field) input.columns))
