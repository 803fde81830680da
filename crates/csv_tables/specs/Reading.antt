-- Tables read from CSV (GNU MathProg Language Reference, section on the table statement, and appendix on table drivers, section on
-- the CSV driver).
use Rattle.std.specs.Prelude.{ℕ, pos, ◌+◌, ◌==◌, codes, is_some, get_or, length, map, List, [], ◌∷◌, ◌++◌, Option, Some, None, Result, Ok, Err, if◌then◌else◌}
use Rattle.std.specs.List.{list_all, position}
use Rattle.std.specs.Str.{bytes_eq, is_utf8}
use Rattle.std.specs.Map.{lookup}
use Rattle.csv.specs.Reading.{default_config, records, strip_bom}
use Rattle.rational.specs.Rational.{Rational, whole}
use Rattle.fraction.specs.Literal.{read_of}
use Rattle.fraction.specs.declared.read.ReadFault.{ReadFault}
use Rattle.gmpl_value.specs.declared.symbol.Symbol.{Symbol}
use Rattle.gmpl_value.specs.declared.symbol.Symbol.TheVariants.{Number, Word}
use Rattle.gmpl_value.specs.SymbolEquality.{tuple_eq}
use Rattle.csv_tables.specs.declared.fault.TableFault.TheVariants.{NoField, BadRecord, TwiceKey}
use Rattle.csv_tables.specs.declared.columns.Source.{Source}
use Rattle.csv_tables.specs.declared.columns.Source.TheVariants.{RecordNumber, Field}
use Rattle.csv_tables.specs.Outcome.{Outcome, then_do}

-- ---- the text

-- the bytes of each field
abbrev pub Record : Type 0
Record = List (List ℕ)

-- parted by commas and line ends, with fields in double quotes or none; a byte order mark at the start is passed over
abbrev pub records_of : List ℕ → List Record
records_of text = records default_config (strip_bom text)

abbrev pub text_of : List ℕ → Outcome (List ℕ)
text_of field = if is_utf8 field then Ok field else Err BadRecord

-- a record whose fields are all UTF-8
unfoldable pub texts_of : Record → Outcome Record
texts_of fields = if list_all is_utf8 fields then Ok fields else Err BadRecord

-- a record of so many fields
unfoldable pub good_record : ℕ → Record → Outcome Record
good_record width fields = if length fields == width then texts_of fields else Err BadRecord

-- ---- fields by their names

abbrev pub field_at : Option ℕ → Outcome Source
field_at None = Err NoField
field_at (Some place) = Ok (Field place)

-- where there is no header there is no field
unfoldable pub record_number : Record → Outcome Source
record_number [] = Err NoField
record_number (name ∷ more) = Ok RecordNumber

-- `RECNO` is the number of the record, any other name the first field that the header names so
unfoldable pub source_named : Record → List ℕ → Outcome Source
source_named header name = if bytes_eq name (codes "RECNO") then record_number header else field_at (position (bytes_eq name) header)

-- those of some names, behind those found before
abbrev pub sources_behind : List Source → Record → List (List ℕ) → Outcome (List Source)
sources_behind found header [] = Ok found
sources_behind found header (name ∷ names) = then_do (λ source. sources_behind (found ++ source ∷ []) header names) (source_named header name)

abbrev pub sources_of : Record → List (List ℕ) → Outcome (List Source)
sources_of header names = sources_behind [] header names

-- how many fields a record has, and where the parts of a key and the values stand
pub record Columns : Type 0 where
  pub width : ℕ
  pub keys : List Source
  pub values : List Source

-- the columns that a header's texts give
abbrev pub columns_under : List (List ℕ) → List (List ℕ) → Record → Outcome Columns
columns_under keys values header =
    then_do (λ k. then_do (λ v. Ok (record { width = length header; keys = k; values = v })) (sources_of header values)) (sources_of header keys)

unfoldable pub columns_of : List (List ℕ) → List (List ℕ) → Record → Outcome Columns
columns_of keys values header = then_do (columns_under keys values) (texts_of header)

-- ---- rows

abbrev pub symbol_by : List ℕ → Result Rational ReadFault → Symbol
symbol_by text (Ok number) = Number number
symbol_by text (Err fault) = Word text

-- a field whose whole text is a literal with a sign or none, and fits, is a number, any other a string
unfoldable pub symbol_of : List ℕ → Symbol
symbol_of text = symbol_by text (read_of text)

-- what a record behind so many others gives
unfoldable pub value_of : ℕ → Record → Source → Symbol
value_of before fields RecordNumber = Number (whole (pos (before + 1)))
value_of before fields (Field place) = symbol_of (get_or fields place [])

-- the key and the values of each record so far
abbrev pub Rows : Type 0
Rows = List (List Symbol × List Symbol)

-- a row whose key is new stands behind the others
unfoldable pub with_row : Rows → List Symbol → List Symbol → Outcome Rows
with_row rows key values = if is_some (lookup (tuple_eq key) rows) then Err TwiceKey else Ok (rows ++ (key, values) ∷ [])

abbrev pub with_fields : Columns → Rows → Record → Outcome Rows
with_fields columns rows fields =
    with_row rows (map (value_of (length rows) fields) columns.keys) (map (value_of (length rows) fields) columns.values)

unfoldable pub with_record : Columns → Rows → Record → Outcome Rows
with_record columns rows fields = then_do (with_fields columns rows) (good_record columns.width fields)

abbrev pub with_records : Columns → Rows → List Record → Outcome Rows
with_records columns rows [] = Ok rows
with_records columns rows (fields ∷ more) = then_do (λ next. with_records columns next more) (with_record columns rows fields)

-- ---- the table

-- the first record is the header; a text without a record has no field
abbrev pub rows_in : List (List ℕ) → List (List ℕ) → List Record → Outcome Rows
rows_in keys values [] = then_do (λ columns. Ok []) (columns_of keys values [])
rows_in keys values (header ∷ more) = then_do (λ columns. with_records columns [] more) (columns_of keys values header)

-- the key and the values of each record, or the first fault
unfoldable pub table_of : List ℕ → List (List ℕ) → List (List ℕ) → Outcome Rows
table_of text keys values = rows_in keys values (records_of text)
