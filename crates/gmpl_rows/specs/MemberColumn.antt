-- The column that a demanded member of a variable may become.
use Rattle.std.specs.Prelude.{None, ℕ, ◌+◌, length, Bool, true, false, List, [], ◌∷◌, ◌++◌}
use Rattle.gmpl_rows.specs.declared.term.Bounds.{Bounds}
use Rattle.gmpl_rows.specs.declared.member_column.Cell.{Cell}

-- its bounds at its first demand; the rows in which its coefficient isn't 0, with the coefficients
pub record MemberColumn : Type 0 where
  pub bounds : Bounds
  pub cells : List Cell

abbrev pub new_column : Bounds → MemberColumn
new_column bounds = record { bounds = bounds; cells = [] }

abbrev pub with_cell : Cell → MemberColumn → MemberColumn
with_cell cell k = record k { cells = k.cells ++ cell ∷ [] }

abbrev pub some_cell : List Cell → Bool
some_cell [] = false
some_cell (c ∷ cs) = true

-- it has a coefficient other than 0 in some row
abbrev pub is_used : MemberColumn → Bool
is_used k = some_cell k.cells

abbrev pub one_if : Bool → ℕ
one_if true = 1
one_if false = 0

-- the coefficients of all members
abbrev pub cells_of : List MemberColumn → ℕ
cells_of [] = 0
cells_of (k ∷ ks) = length k.cells + cells_of ks

-- the members with a coefficient
abbrev pub used_of : List MemberColumn → ℕ
used_of [] = 0
used_of (k ∷ ks) = one_if (is_used k) + used_of ks

-- past the end of a list
abbrev pub no_column : MemberColumn
no_column = new_column (record { lower = None; upper = None })
