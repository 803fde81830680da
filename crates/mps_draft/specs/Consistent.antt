-- What holds of each declaration that a reader keeps, and of the count that it keeps beside it.
use Rattle.std.specs.Prelude.{ℕ, ◌≡◌, ◌≤◌, true, List, length, IfSome}
use Rattle.std.specs.List.{All, list_any}
use Rattle.std.specs.declared.option.Option.{Option}
use Rattle.milp.specs.Problem.{Column}
use Rattle.model_text.specs.Columns.{is_column_named}
use Rattle.mps_draft.specs.Declaration.{DeclaredRow, entry_count}

-- no row has a number of a column that isn't there
abbrev pub IsGiven : ℕ → DeclaredRow → Type 0
IsGiven columns r = r.latest ≤ columns

-- the column whose lines may go on is one of the columns
abbrev pub IsDeclared : Option (List ℕ) → List Column → Type 0
IsDeclared current columns = IfSome current (λ name. list_any (is_column_named name) columns ≡ true)

pub record IsConsistent (objective : Option DeclaredRow) (rows : List DeclaredRow) (columns : List Column) (count : ℕ) : Type 0 where
  pub objective_given : IfSome objective (IsGiven (length columns))
  pub rows_given : All (IsGiven (length columns)) rows
  pub counted : count ≡ entry_count rows
  pub row_room : length rows ≤ 1_000_000
  pub entry_room : entry_count rows ≤ 20_000_000
