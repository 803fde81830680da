-- Tables written as CSV (GNU MathProg Language Reference, section on the table statement, and appendix on table drivers, section on
-- the CSV driver).
use Rattle.std.specs.Prelude.{◌≡◌, true, false, map, ℕ, List, [], ◌∷◌, ◌++◌, Option, Some, None, IsSome}
use Rattle.csv.specs.Writing.{default_writer, fields_written, has_written, row_text, text_written, with_flexible, writer_setup}
use Rattle.csv.specs.declared.writer.WriterBuilder.{WriterBuilder}
use Rattle.csv.specs.declared.writer.Writer.{Writer}
use Rattle.fraction.specs.Text.{text_of}
use Rattle.gmpl_value.specs.declared.symbol.Symbol.{Symbol}
use Rattle.gmpl_value.specs.declared.symbol.Symbol.TheVariants.{Number, Word}

-- a number as `n` or `n/d`, a string as it is
abbrev pub field_of : Symbol → List ℕ
field_of (Number number) = text_of number
field_of (Word text) = text

-- commas, line feeds, and double quotes where a field needs them; the records may have different lengths
abbrev pub table_writer : WriterBuilder
table_writer = with_flexible default_writer true

abbrev pub record_of : List Symbol → List ℕ
record_of row = row_text table_writer (map field_of row)

abbrev pub records_of : List (List Symbol) → List ℕ
records_of [] = []
records_of (row ∷ rows) = record_of row ++ records_of rows

-- the names of the fields, then a record for each row
unfoldable pub text_of_table : List (List ℕ) → List (List Symbol) → List ℕ
text_of_table names rows = row_text table_writer names ++ records_of rows

-- ---- what a writer has written

abbrev pub known_text : Option (List ℕ) → List ℕ
known_text None = []
known_text (Some text) = text

-- the bytes of its records so far, where `contents` tells those of the writer under it
unfoldable pub written : {W : Type 0} → (W → Option (List ℕ)) → Writer W → List ℕ
written contents writer = known_text (text_written contents writer)

-- a writer that stands before a record, and of which the bytes so far are known
unfoldable pub IsWriting : {W : Type 0} → (W → Option (List ℕ)) → Writer W → Type 0
IsWriting contents writer = IsSome (text_written contents writer) × (fields_written writer ≡ 0) × (has_written writer ≡ false) × (writer_setup writer ≡ table_writer)
