-- What a line of BOUNDS says of a column.
use Rattle.std.specs.Prelude.{ℕ, Bool, true, false, List, codes, Some, None, Result, Ok, Err, if◌then◌else◌}
use Rattle.std.specs.declared.option.Option.{Option}
use Rattle.std.specs.List.{list_any}
use Rattle.std.specs.Str.{bytes_eq}
use Rattle.rational.specs.Rational.{Rational, zero_ℚ, one_ℚ}
use Rattle.milp.specs.Problem.{Column}
use Rattle.model_text.specs.Columns.{is_column_named}
use Rattle.model_text.specs.declared.fault.FaultKind.{FaultKind}
use Rattle.model_text.specs.declared.fault.FaultKind.TheVariants.{Unknown}
use Rattle.model_text.specs.Steps.{then_do}
use Rattle.mps_draft.specs.Declaration.{Declaration, with_first_changed}
use Rattle.mps_draft.specs.declared.bound.BoundKind.{BoundKind}
use Rattle.mps_draft.specs.declared.bound.BoundKind.TheVariants.{Lower, Upper, Fixed, IntegerLower, IntegerUpper, Unbounded, NoLower, NoUpper, Binary}

abbrev pub bound_kind_of : List ℕ → Option BoundKind
bound_kind_of word =
    if bytes_eq word (codes "LO") then Some Lower
    else if bytes_eq word (codes "UP") then Some Upper
    else if bytes_eq word (codes "FX") then Some Fixed
    else if bytes_eq word (codes "LI") then Some IntegerLower
    else if bytes_eq word (codes "UI") then Some IntegerUpper
    else if bytes_eq word (codes "FR") then Some Unbounded
    else if bytes_eq word (codes "MI") then Some NoLower
    else if bytes_eq word (codes "PL") then Some NoUpper
    else if bytes_eq word (codes "BV") then Some Binary
    else None

abbrev pub has_value : BoundKind → Bool
has_value Lower = true
has_value Upper = true
has_value Fixed = true
has_value IntegerLower = true
has_value IntegerUpper = true
has_value Unbounded = false
has_value NoLower = false
has_value NoUpper = false
has_value Binary = false

abbrev pub bounded : BoundKind → Rational → Column → Column
bounded Lower v c = record c { lower = Some v }
bounded Upper v c = record c { upper = Some v }
bounded Fixed v c = record c { lower = Some v; upper = Some v }
bounded IntegerLower v c = record c { lower = Some v; integer = true }
bounded IntegerUpper v c = record c { upper = Some v; integer = true }
bounded Unbounded v c = record c { lower = None; upper = None }
bounded NoLower v c = record c { lower = None }
bounded NoUpper v c = record c { upper = None }
bounded Binary v c = record c { lower = Some zero_ℚ; upper = Some one_ℚ; integer = true }

-- ---- the column of a name

-- its bound is set, with a number or its fault
abbrev pub columns_bounded : BoundKind → List ℕ → Result Rational FaultKind → List Column → Result (List Column) FaultKind
columns_bounded kind name number columns =
    if list_any (is_column_named name) columns then then_do (λ value. Ok (with_first_changed (is_column_named name) (bounded kind value) columns)) number
    else Err Unknown

abbrev pub bound_given : BoundKind → Declaration → List ℕ → Result Rational FaultKind → Result Declaration FaultKind
bound_given kind d name number = then_do (λ columns. Ok (record d { columns = columns })) (columns_bounded kind name number d.columns)
