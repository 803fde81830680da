-- What the sections say of a row.
use Rattle.std.specs.Prelude.{ℕ, ◌-◌, List, [], ◌∷◌, ◌++◌, codes, Some, None, unwrap_or, if◌then◌else◌}
use Rattle.std.specs.declared.option.Option.{Option}
use Rattle.std.specs.Str.{bytes_eq}
use Rattle.rational.specs.Rational.{Rational, zero_ℚ}
use Rattle.rational.specs.Compare.{is_zero}
use Rattle.mps_draft.specs.declared.row.RowKind.{RowKind}
use Rattle.mps_draft.specs.declared.row.RowKind.TheVariants.{Objective, Free, AtMost, AtLeast, Exactly}
use Rattle.mps_draft.specs.declared.row.RowRange.{RowRange}
use Rattle.mps_draft.specs.Declaration.{DeclaredRow}

-- ---- ROWS: its kind

abbrev pub row_kind_of : List ℕ → Option RowKind
row_kind_of word =
    if bytes_eq word (codes "N") then Some Free
    else if bytes_eq word (codes "L") then Some AtMost
    else if bytes_eq word (codes "G") then Some AtLeast
    else if bytes_eq word (codes "E") then Some Exactly
    else None

-- ---- COLUMNS

-- the last column gives the row this number, of which a zero makes no entry
abbrev pub given : ℕ → Rational → DeclaredRow → DeclaredRow
given columns value r = record r {
  entries = if is_zero value then r.entries else r.entries ++ record { column = columns - 1; coefficient = value } ∷ [];
  latest = columns;
}

-- ---- RHS and RANGES

-- on a free row that isn't the objective it is passed over
abbrev pub rhs_of_kind : RowKind → Rational → Option Rational
rhs_of_kind Free value = None
rhs_of_kind Objective value = Some value
rhs_of_kind AtMost value = Some value
rhs_of_kind AtLeast value = Some value
rhs_of_kind Exactly value = Some value

abbrev pub rhs_added : Rational → DeclaredRow → DeclaredRow
rhs_added value r = record r { rhs = rhs_of_kind r.kind value }

-- 0 where no right-hand side is given
abbrev pub rhs_of : DeclaredRow → Rational
rhs_of r = unwrap_or r.rhs zero_ℚ

abbrev pub range_added : RowRange → DeclaredRow → DeclaredRow
range_added range r = record r { range = Some range }
