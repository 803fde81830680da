-- What a line of ROWS or COLUMNS adds to the declaration, or the kind of its first fault: leftmost field first.
use Rattle.std.specs.Prelude.{ℕ, nat_le, ◌&&◌, ◌||◌, not, Bool, true, false, List, [], ◌∷◌, ◌++◌, length, codes, Some, None, is_some, Result, Ok, Err, if◌then◌else◌}
use Rattle.std.specs.declared.option.Option.{Option}
use Rattle.std.specs.Str.{bytes_eq}
use Rattle.rational.specs.Rational.{Rational}
use Rattle.model_text.specs.declared.fault.FaultKind.{FaultKind}
use Rattle.model_text.specs.declared.fault.FaultKind.TheVariants.{BadLine, Twice, TooMany}
use Rattle.model_text.specs.declared.profile.Profile.{Profile}
use Rattle.mps_draft.specs.declared.row.RowKind.{RowKind}
use Rattle.mps_draft.specs.declared.row.RowKind.TheVariants.{Objective}
use Rattle.mps_draft.specs.Declaration.{is_free, DeclaredRow, new_row, Declaration, is_row, is_column}
use Rattle.mps_draft.specs.Declaration.{is_the_name}
use Rattle.mps_draft.specs.Rows.{row_kind_of}
use Rattle.mps_draft.specs.RowNumbers.{entry_added}
use Rattle.model_text.specs.Columns.{new_column}
use Rattle.model_text.specs.Steps.{then_do}
use Rattle.mps_reader.specs.Steps.{at_end, number_of}

-- ---- ROWS: `N|L|G|E name`

-- the first N is the objective
abbrev pub makes_objective : RowKind → Option DeclaredRow → Bool
makes_objective kind objective = is_free kind && not (is_some objective)

-- one more row
abbrev pub with_new_row : Profile → Declaration → List ℕ → RowKind → List (List ℕ) → Result Declaration FaultKind
with_new_row profile d name kind fields =
    if nat_le profile.rows (length d.rows) then Err TooMany
    else at_end fields (record d { rows = d.rows ++ new_row name kind ∷ [] })

abbrev pub row_of_kind : Profile → Declaration → Option RowKind → List (List ℕ) → Result Declaration FaultKind
row_of_kind profile d None fields = Err BadLine
row_of_kind profile d (Some kind) [] = Err BadLine
row_of_kind profile d (Some kind) (name ∷ fields) =
    if is_row d name then Err Twice
    else if makes_objective kind d.objective then at_end fields (record d { objective = Some (new_row name Objective) })
    else with_new_row profile d name kind fields

abbrev pub row_line : Profile → Declaration → List (List ℕ) → Result Declaration FaultKind
row_line profile d [] = Err BadLine
row_line profile d (kind ∷ fields) = row_of_kind profile d (row_kind_of kind) fields

-- ---- COLUMNS: `col row v [row v]`, or `name 'MARKER' 'INTORG'` and `'INTEND'`

-- INTORG begins integer columns, INTEND ends them
abbrev pub marker_of : List ℕ → Option Bool
marker_of word =
    if bytes_eq word (codes "'INTORG'") then Some true
    else if bytes_eq word (codes "'INTEND'") then Some false
    else None

abbrev pub begins_with_marker : List (List ℕ) → Bool
begins_with_marker [] = false
begins_with_marker (word ∷ fields) = is_some (marker_of word)

-- by the fields after the first; where a row is named 'MARKER', only a whole marker is one
abbrev pub is_marker : Declaration → List (List ℕ) → Bool
is_marker d [] = false
is_marker d (word ∷ fields) = bytes_eq word (codes "'MARKER'") && (begins_with_marker fields || not (is_row d word))

-- an open INTORG is followed by INTEND and the other way round; no column's lines go on over a marker
abbrev pub turned : Declaration → Option Bool → List (List ℕ) → Result Declaration FaultKind
turned d None fields = Err BadLine
turned d (Some true) fields = if d.in_integers then Err BadLine else at_end fields (record d { current = None; in_integers = true })
turned d (Some false) fields = if d.in_integers then at_end fields (record d { current = None; in_integers = false }) else Err BadLine

abbrev pub marker_line : Declaration → List (List ℕ) → Result Declaration FaultKind
marker_line d (word ∷ marker ∷ fields) = turned d (marker_of marker) fields
marker_line d fields = Err BadLine

-- a new name begins a column, and the name of the current one goes on with it
abbrev pub at_column : Profile → Declaration → List ℕ → Result Declaration FaultKind
at_column profile d name =
    if is_column d name then (if is_the_name d.current name then Ok d else Err Twice)
    else if nat_le profile.columns (length d.columns) then Err TooMany
    else Ok (record d { columns = d.columns ++ new_column name d.in_integers ∷ []; current = Some name })

-- the number beside a row's name
abbrev pub number_in : List (List ℕ) → Result Rational FaultKind
number_in [] = Err BadLine
number_in (v ∷ fields) = number_of v

-- `row v`
abbrev pub at_entry : Profile → Declaration → List (List ℕ) → Result Declaration FaultKind
at_entry profile d [] = Err BadLine
at_entry profile d (row ∷ fields) = entry_added profile.entries d row (number_in fields)

abbrev pub after_pair : List (List ℕ) → List (List ℕ)
after_pair (row ∷ v ∷ fields) = fields
after_pair fields = []

-- `[row v]`
abbrev pub at_second_entry : Profile → List (List ℕ) → Declaration → Result Declaration FaultKind
at_second_entry profile [] d = Ok d
at_second_entry profile (row ∷ fields) d = then_do (at_end (after_pair (row ∷ fields))) (at_entry profile d (row ∷ fields))

-- `row v [row v]`
abbrev pub at_entries : Profile → List (List ℕ) → Declaration → Result Declaration FaultKind
at_entries profile fields d = then_do (at_second_entry profile (after_pair fields)) (at_entry profile d fields)

abbrev pub column_line : Profile → Declaration → List (List ℕ) → Result Declaration FaultKind
column_line profile d [] = Err BadLine
column_line profile d (name ∷ fields) =
    if is_marker d fields then marker_line d fields
    else then_do (at_entries profile fields) (at_column profile d name)
