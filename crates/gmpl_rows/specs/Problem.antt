-- The problem that the rows so far are.
use Rattle.std.specs.Prelude.{ℕ, ◌+◌, ◌==◌, ◌&&◌, not, cond, get_or, false, List, [], ◌∷◌, ◌++◌, map, slice_get, Option, Some, None, codes}
use Rattle.rational.specs.Rational.{Rational, zero_ℚ}
use Rattle.rational.specs.Compare.{is_zero}
use Rattle.milp.specs.Form.{Entry}
use Rattle.milp.specs.Problem.{Problem, Column, Row}
use Rattle.milp.specs.declared.Direction.TheVariants.{Min}
use Rattle.gmpl_value.specs.declared.symbol.Symbol.{Symbol}
use Rattle.gmpl_member_names.specs.Names.{member_name}
use Rattle.gmpl_rows.specs.MemberColumn.{MemberColumn, is_used}
use Rattle.gmpl_rows.specs.Demanded.{Demanded}
use Rattle.gmpl_solution.specs.declared.member.Member.{Member}
use Rattle.gmpl_solution.specs.Solution.{member}
use Rattle.gmpl_rows.specs.Draft.{Draft, row_member}
use Rattle.gmpl_rows.specs.declared.declared.Declared.{Declared}
use Rattle.gmpl_rows.specs.declared.draft.ObjectiveRow.{ObjectiveRow}
use Rattle.gmpl_rows.specs.declared.draft.RowHead.{RowHead}
use Rattle.gmpl_rows.specs.declared.member_column.Cell.{Cell}
use Rattle.gmpl_rows.specs.declared.members.ColumnMember.{ColumnMember}
use Rattle.gmpl_rows.specs.declared.term.Bounds.{Bounds}

-- ---- columns: by statement, then by first demand

-- a column, and its coefficients by row
pub record LaidColumn : Type 0 where
  pub column : Column
  pub cells : List Cell

abbrev pub laid_member : Declared → List Symbol → MemberColumn → LaidColumn
laid_member v m k = record {
  column = record { name = member_name v.name m; lower = k.bounds.lower; upper = k.bounds.upper; integer = v.integer };
  cells = k.cells;
}

-- the members with a coefficient other than 0 in some row
abbrev pub laid_in : Declared → List (List Symbol) → List MemberColumn → List LaidColumn
laid_in v (m ∷ ms) (k ∷ ks) = cond (is_used k) (laid_member v m k ∷ laid_in v ms ks) (laid_in v ms ks)
laid_in v _ _ = []

abbrev pub laid_out : List Declared → List Demanded → List LaidColumn
laid_out (v ∷ vs) (d ∷ ds) = laid_in v d.members d.columns ++ laid_out vs ds
laid_out _ _ = []

-- ---- rows

-- the first coefficient other than 0 in row i
abbrev pub cell_in : ℕ → List Cell → Option Rational
cell_in i [] = None
cell_in i (c ∷ cs) = cond (c.row == i && not (is_zero c.coefficient)) (Some c.coefficient) (cell_in i cs)

abbrev pub with_entry : ℕ → Option Rational → List Entry → List Entry
with_entry k None es = es
with_entry k (Some c) es = record { column = k; coefficient = c } ∷ es

-- the entries of row i in the columns from k on
abbrev pub entries_of : ℕ → ℕ → List LaidColumn → List Entry
entries_of i k [] = []
entries_of i k (l ∷ ls) = with_entry k (cell_in i l.cells) (entries_of i (k + 1) ls)

-- past the last statement
abbrev pub nothing_declared : Declared
nothing_declared = record { name = []; integer = false }

abbrev pub name_of : List Declared → ℕ → List ℕ
name_of vs i = (get_or vs i nothing_declared).name

abbrev pub row_with : List Declared → RowHead → List Entry → Row
row_with vs h es = record { name = member_name (name_of vs h.statement) h.subscripts; lower = h.lower; upper = h.upper; entries = es }

-- the rows from row i on
abbrev pub rows_from : List Declared → List LaidColumn → ℕ → List RowHead → List Row
rows_from vs ls i [] = []
rows_from vs ls i (h ∷ hs) = row_with vs h (entries_of i 0 ls) ∷ rows_from vs ls (i + 1) hs

-- ---- the problem

abbrev pub objective_of : ObjectiveRow → Option Row → Problem → Problem
objective_of a None p = p
objective_of a (Some r) p = record p { direction = a.direction; objective_name = r.name; objective = r.entries; constant = a.constant }

abbrev pub aimed_at : Option ObjectiveRow → List Row → Problem → Problem
aimed_at None rows p = p
aimed_at (Some a) rows p = objective_of a (slice_get rows a.row) p

-- without an objective it is `obj`, and nothing is minimised
abbrev pub plain : List Column → List Row → Problem
plain columns rows = record { columns = columns; rows = rows; direction = Min; objective_name = codes "obj"; objective = []; constant = zero_ℚ }

abbrev pub column_of : LaidColumn → Column
column_of l = l.column

abbrev pub columns_of : Draft → List Column
columns_of d = map column_of (laid_out d.objects d.variables)

abbrev pub rows_of : Draft → List Row
rows_of d = rows_from d.objects (laid_out d.objects d.variables) 0 d.rows

abbrev pub problem_of : Draft → Problem
problem_of d = aimed_at d.objective (rows_of d) (plain (columns_of d) (rows_of d))

-- ---- the members that columns and rows come from

abbrev pub used_member : ℕ → List Symbol → MemberColumn → List ColumnMember
used_member statement m k = cond (is_used k) (record { member = member statement m; bounds = k.bounds } ∷ []) []

-- those of a variable with a coefficient other than 0 in some row
abbrev pub used_members : ℕ → List (List Symbol) → List MemberColumn → List ColumnMember
used_members statement (m ∷ ms) (k ∷ ks) = used_member statement m k ++ used_members statement ms ks
used_members statement _ _ = []

-- of the statements from a place on
abbrev pub members_from : ℕ → List Declared → List Demanded → List ColumnMember
members_from place (v ∷ vs) (d ∷ ds) = used_members place d.members d.columns ++ members_from (place + 1) vs ds
members_from place _ _ = []

-- in the columns' order, with the columns' own bounds
abbrev pub column_members : Draft → List ColumnMember
column_members d = members_from 0 d.objects d.variables

-- in the rows' order
abbrev pub row_members : Draft → List Member
row_members d = map row_member d.rows

-- the name of a member of one of these objects
abbrev pub named_among : List Declared → Member → List ℕ
named_among vs m = member_name (name_of vs m.statement) m.subscripts

abbrev pub column_named : List Declared → ColumnMember → List ℕ
column_named vs c = named_among vs c.member

abbrev pub own_bounds : ColumnMember → Bounds
own_bounds c = c.bounds

abbrev pub column_name : Column → List ℕ
column_name c = c.name

abbrev pub column_bounds : Column → Bounds
column_bounds c = record { lower = c.lower; upper = c.upper }

abbrev pub row_name : Row → List ℕ
row_name r = r.name
