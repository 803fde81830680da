-- The rows of cuts, with their names.
use Rattle.std.specs.Prelude.{ℕ, ◌+◌, List, [], ◌∷◌, Some, None}
use Rattle.milp.specs.Problem.{Row}
use Rattle.verdicts.specs.Certificate.{Derived}
use Rattle.row_columns.specs.Extending.{new_name}

abbrev pub cut_row : List ℕ → ℕ → Derived → Row
cut_row prefix j d = record { name = new_name prefix j; lower = Some d.bound; upper = None; entries = d.form }

-- the rows of these cuts, from the j-th on
abbrev pub cut_rows : List ℕ → ℕ → List Derived → List Row
cut_rows prefix j [] = []
cut_rows prefix j (d ∷ cuts) = cut_row prefix j d ∷ cut_rows prefix (j + 1) cuts
