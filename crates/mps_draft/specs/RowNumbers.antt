-- The numbers that COLUMNS and RHS give rows: what one makes of the declaration, or the kind of the first fault. A row is judged before its number.
use Rattle.std.specs.Prelude.{ℕ, ◌==◌, nat_le, ◌&&◌, not, Bool, List, length, Some, None, is_some, Result, Ok, Err, if◌then◌else◌}
use Rattle.std.specs.declared.option.Option.{Option}
use Rattle.rational.specs.Rational.{Rational}
use Rattle.rational.specs.Compare.{is_zero}
use Rattle.model_text.specs.declared.fault.FaultKind.{FaultKind}
use Rattle.model_text.specs.declared.fault.FaultKind.TheVariants.{Unknown, Twice, TooMany}
use Rattle.model_text.specs.Steps.{then_do}
use Rattle.mps_draft.specs.Declaration.{DeclaredRow, Declaration, is_objective_named, is_row_named, row_named, with_row, with_first_changed, entry_count}
use Rattle.mps_draft.specs.Rows.{given, rhs_added}

-- ---- the value that a row takes

-- where no entry more may be, only a zero may
abbrev pub within : Bool → Rational → Result Rational FaultKind
within is_full value = if not (is_zero value) && is_full then Err TooMany else Ok value

-- what the last of so many columns has in the row, which it may have once
abbrev pub entry_value : ℕ → Bool → Result Rational FaultKind → DeclaredRow → Result Rational FaultKind
entry_value columns is_full number r = if r.latest == columns then Err Twice else then_do (within is_full) number

-- its right-hand side, of which it has one
abbrev pub rhs_value : Result Rational FaultKind → DeclaredRow → Result Rational FaultKind
rhs_value number r = if is_some r.rhs then Err Twice else number

-- how many entries a number makes
abbrev pub entries_of : Result Rational FaultKind → ℕ
entries_of (Err fault) = 0
entries_of (Ok value) = if is_zero value then 0 else 1

-- ---- the row of a name changed by the value that it takes

-- the objective
abbrev pub objective_with : (DeclaredRow → Result Rational FaultKind) → (Rational → DeclaredRow → DeclaredRow) → Option DeclaredRow → Result (Option DeclaredRow) FaultKind
objective_with taken change None = Err Unknown
objective_with taken change (Some r) = then_do (λ value. Ok (Some (change value r))) (taken r)

-- among the rows
abbrev pub rows_with : (DeclaredRow → Result Rational FaultKind) → (Rational → DeclaredRow → DeclaredRow) → List ℕ → List DeclaredRow → Option DeclaredRow → Result (List DeclaredRow) FaultKind
rows_with taken change name rows None = Err Unknown
rows_with taken change name rows (Some r) = then_do (λ value. Ok (with_first_changed (is_row_named name) (change value) rows)) (taken r)

-- the objective or the row
abbrev pub row_with : (DeclaredRow → Result Rational FaultKind) → (Rational → DeclaredRow → DeclaredRow) → List ℕ → Declaration → Option DeclaredRow → Result Declaration FaultKind
row_with taken change name d None = Err Unknown
row_with taken change name d (Some r) = then_do (λ value. Ok (with_row (change value) name d)) (taken r)

-- ---- COLUMNS and RHS

-- the rows have as many entries as they may; the objective's aren't counted
abbrev pub is_full : ℕ → Declaration → List ℕ → Bool
is_full most d name = not (is_objective_named name d.objective) && nat_le most (entry_count d.rows)

-- the last column has this number in the row of the name
abbrev pub entry_added : ℕ → Declaration → List ℕ → Result Rational FaultKind → Result Declaration FaultKind
entry_added most d name number = row_with (entry_value (length d.columns) (is_full most d name) number) (given (length d.columns)) name d (row_named d name)

-- the row of the name has this right-hand side
abbrev pub rhs_given : Declaration → List ℕ → Result Rational FaultKind → Result Declaration FaultKind
rhs_given d name number = row_with (rhs_value number) rhs_added name d (row_named d name)
