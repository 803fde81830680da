-- Coefficients by column, laid down row by row: for proofs alone.
use Rattle.std.specs.Prelude.{ℕ, ◌+◌, ◌||◌, nat_lt, cond, List, [], ◌∷◌, ◌++◌, length, zero, suc}
use Rattle.rational.specs.Rational.{Rational}
use Rattle.rational.specs.Compare.{is_zero}
use Rattle.milp.specs.Form.{Entry}
use Rattle.milp.specs.Problem.{Row}
use Rattle.gmpl_rows.specs.Demanded.{changed_at}
use Rattle.gmpl_rows.specs.Problem.{LaidColumn, row_with}
use Rattle.gmpl_rows.specs.declared.declared.Declared.{Declared}
use Rattle.gmpl_rows.specs.declared.draft.RowHead.{RowHead}
use Rattle.gmpl_rows.specs.declared.member_column.Cell.{Cell}

-- the entries of a row so far, and the first column that may come next
pub record RowEntries : Type 0 where
  pub entries : List Entry
  pub next : ℕ

abbrev pub nothing_begun : RowEntries
nothing_begun = record { entries = []; next = 0 }

abbrev pub lay : ℕ → Rational → RowEntries → RowEntries
lay k c r = cond (is_zero c || nat_lt k r.next) r (record { entries = r.entries ++ record { column = k; coefficient = c } ∷ []; next = k + 1 })

abbrev pub lay_cell : ℕ → Cell → List RowEntries → List RowEntries
lay_cell k c rs = changed_at c.row (lay k c.coefficient) rs

abbrev pub lay_cells : ℕ → List Cell → List RowEntries → List RowEntries
lay_cells k [] rs = rs
lay_cells k (c ∷ cs) rs = lay_cells k cs (lay_cell k c rs)

abbrev pub lay_all : ℕ → List LaidColumn → List RowEntries → List RowEntries
lay_all k [] rs = rs
lay_all k (l ∷ ls) rs = lay_all (k + 1) ls (lay_cells k l.cells rs)

abbrev pub all_begun : ℕ → List RowEntries
all_begun zero = []
all_begun (suc n) = nothing_begun ∷ all_begun n

abbrev pub rows_with : List Declared → List RowHead → List RowEntries → List Row
rows_with vs (h ∷ hs) (r ∷ rs) = row_with vs h r.entries ∷ rows_with vs hs rs
rows_with vs _ _ = []

-- the entries of all columns
abbrev pub laid_cells : List LaidColumn → ℕ
laid_cells [] = 0
laid_cells (l ∷ ls) = length l.cells + laid_cells ls
