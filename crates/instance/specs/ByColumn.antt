-- The entries of rows, told column by column.
use Rattle.std.specs.Prelude.{ℕ, ◌+◌, ◌==◌, ◌≡◌, List, [], ◌∷◌, ◌++◌, length, slice_index_or, slice_set, if◌then◌else◌}
use Rattle.milp.specs.Form.{Entry}
use Rattle.milp.specs.Problem.{Column, Row}
pub use Rattle.instance.specs.declared.by_column.ColumnEntry.{ColumnEntry}

-- the entries of column j in the form of row i
abbrev pub entries_in_form : ℕ → List Entry → ℕ → List ColumnEntry
entries_in_form i [] j = []
entries_in_form i (e ∷ es) j = (if e.column == j then record { row = i; coefficient = e.coefficient } ∷ entries_in_form i es j else entries_in_form i es j)

-- the entries of column j in rows, of which the first is row i
abbrev pub entries_in_rows : ℕ → List Row → ℕ → List ColumnEntry
entries_in_rows i [] j = []
entries_in_rows i (r ∷ rs) j = entries_in_form i r.entries j ++ entries_in_rows (i + 1) rs j

-- the entries of column j, in order of row
abbrev pub entries_in_column : List Row → ℕ → List ColumnEntry
entries_in_column rows j = entries_in_rows 0 rows j

-- a list for each column, with the column's entries
pub record AreByColumn (lists : List (List ColumnEntry)) (columns : List Column) (rows : List Row) : Type 0 where
  pub size : length lists ≡ length columns
  pub entries : (j : ℕ) → slice_index_or lists j [] ≡ entries_in_column rows j

-- ---- one more row

-- one more entry at the end of its column's list
abbrev pub with_entry : ℕ → Entry → List (List ColumnEntry) → List (List ColumnEntry)
with_entry i e lists = slice_set lists e.column (slice_index_or lists e.column [] ++ record { row = i; coefficient = e.coefficient } ∷ [])

-- each entry of the form of row i at the end of its column's list
abbrev pub with_form : ℕ → List Entry → List (List ColumnEntry) → List (List ColumnEntry)
with_form i [] lists = lists
with_form i (e ∷ es) lists = with_form i es (with_entry i e lists)
