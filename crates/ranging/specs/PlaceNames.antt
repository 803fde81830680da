-- Names of columns and rows by their places.
use Rattle.std.specs.Prelude.{ℕ, suc, ◌+◌, List, [], ◌∷◌, ◌++◌, codes}
use Rattle.std.specs.Fmt.{decimal}
use Rattle.milp.specs.Problem.{Column, Row, Problem}

-- c.1 for the first column
abbrev pub column_name : ℕ → List ℕ
column_name j = codes "c." ++ decimal (j + 1)

-- r.1 for the first row
abbrev pub row_name : ℕ → List ℕ
row_name i = codes "r." ++ decimal (i + 1)

-- the columns with the names of the places from j on
abbrev pub named_columns : ℕ → List Column → List Column
named_columns j [] = []
named_columns j (c ∷ cs) = record c { name = column_name j } ∷ named_columns (suc j) cs

-- the rows with the names of the places from i on
abbrev pub named_rows : ℕ → List Row → List Row
named_rows i [] = []
named_rows i (r ∷ rs) = record r { name = row_name i } ∷ named_rows (suc i) rs

-- the problem with the names of its places
abbrev pub named_by_place : Problem → Problem
named_by_place p = record p { columns = named_columns 0 p.columns; rows = named_rows 0 p.rows }
