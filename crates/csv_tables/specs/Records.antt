-- What a reader of CSV has left.
use Rattle.std.specs.Prelude.{◌≡◌, suc, false, length, ℕ, List, [], Option, Some, None, IsSome}
use Rattle.csv.specs.Machine.{ends_at_end}
use Rattle.csv.specs.Reading.{Ready, default_config, reader_config, reader_state, reader_trim, records_from, source_of}
use Rattle.csv.specs.declared.parser.State.{State}
use Rattle.csv.specs.declared.reader.Reader.{Reader}
use Rattle.csv.specs.declared.reader.Trim.TheVariants as trim

-- the records from a state on
unfoldable pub records_left : State → List ℕ → List (List (List ℕ))
records_left state bytes = records_from default_config (suc (length bytes)) state bytes

abbrev pub left_of : State → Option (List ℕ) → List (List (List ℕ))
left_of state None = []
left_of state (Some bytes) = records_left state bytes

-- the records that a reader has left, where `rest` tells the bytes under it
unfoldable pub rows_left : {R : Type 0} → (R → Option (List ℕ)) → Reader R → List (List (List ℕ))
rows_left rest reader = left_of (reader_state reader) (source_of rest reader)

-- a reader with the default settings that stands before a record
unfoldable pub IsReading : {R : Type 0} → (R → Option (List ℕ)) → Reader R → Type 0
IsReading rest reader = (reader_trim reader ≡ trim.None) × Ready reader × (reader_config reader ≡ default_config)
    × (ends_at_end (reader_state reader) ≡ false) × IsSome (source_of rest reader)
