-- What the key of the row, or the column, at a place gives. Past the end there is none, and nothing is given.
use Rattle.std.specs.Prelude.{ℕ, List, [], slice_get, Option, Some, None, Ok}
use Rattle.gmpl_value.specs.declared.symbol.Symbol.{Symbol}
use Rattle.gmpl_resolved.specs.declared.statement.InputColumn.{InputColumn}
use Rattle.gmpl_data.specs.declared.tables.Given.{Given}
use Rattle.csv_tables.specs.Outcome.{Outcome}
use Rattle.gmpl_table_data.specs.declared.sets.Joined.{Joined}
use Rattle.gmpl_table_data.specs.TableData.{Tables, with_key, value_given}

-- what is left at a place while what was there is taken out
abbrev pub nothing : Given
nothing = record { values = []; overfull = []; default = None }

abbrev pub with_key_of : Option (List Symbol × List Symbol) → Joined → Joined
with_key_of None before = before
with_key_of (Some row) before = with_key row.0 before

abbrev pub column_given : ℕ → Option InputColumn → List Symbol × List Symbol → Tables → Outcome Tables
column_given place None row tables = Ok tables
column_given place (Some column) row tables = value_given column.parameter row.0 (slice_get row.1 place) tables
