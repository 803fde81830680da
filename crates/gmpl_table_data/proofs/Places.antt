-- What is taken out of a place and put back, and the element at a place of a list that is gone along.
use Rattle.std.proofs.Common.{◌≡◌, ◌+◌, ℕ, zero, suc, List, [], ◌∷◌, drop, refl}
use Rattle.std.specs.Prelude.{set, slice_get}
use native.Mathlib.Numerals.{unary_clauses}
use Rattle.std.proofs.lemmas.List.{set-set}
use Rattle.gmpl_value.specs.declared.symbol.Symbol.{Symbol}
use Rattle.gmpl_resolved.specs.declared.statement.InputColumn.{InputColumn}
use Rattle.gmpl_data.specs.declared.tables.Given.{Given}
use Rattle.csv_tables.specs.Outcome.{then_do}
use Rattle.csv_tables.specs.Reading.{Rows}
use Rattle.gmpl_table_data.specs.declared.sets.Joined.{Joined}
use Rattle.gmpl_table_data.specs.TableData.{Tables, with_keys, row_given}
use Rattle.gmpl_table_data.specs.Places.{with_key_of, column_given}

pub put_back : (tables : Tables) (place : ℕ) (left more : Given) → set (set tables place left) place more ≡ set tables place more
put_back tables place left more = set-set tables place left more

-- ---- a turn over the rows or the columns, past their end too

pub next_key : (rows : Rows) (place : ℕ) (before : Joined) → with_keys (drop place rows) before ≡ with_keys (drop (place + 1) rows) (with_key_of (slice_get rows place) before)
next_key [] zero before = refl
next_key [] (suc place) before = simp unary_clauses refl
next_key (row ∷ rows) zero before = refl
next_key (row ∷ rows) (suc place) before =
    let later = next_key rows place before in
    simp unary_clauses (simp unary_clauses at later)

pub next_column : (before : ℕ) (columns : List InputColumn) (place : ℕ) (row : List Symbol × List Symbol) (tables : Tables)
    → row_given before (drop place columns) row tables ≡ then_do (row_given (before + 1) (drop (place + 1) columns) row) (column_given before (slice_get columns place) row tables)
next_column before [] zero row tables = refl
next_column before [] (suc place) row tables = simp unary_clauses refl
next_column before (column ∷ columns) zero row tables = refl
next_column before (column ∷ columns) (suc place) row tables =
    let later = next_column before columns place row tables in
    simp unary_clauses (simp unary_clauses at later)
