-- Forms whose entries stand in ascending order of column, each column once at most.
use Rattle.std.specs.Prelude.{ℕ, ◌+◌, ◌≤◌, List, [], ◌∷◌, IfSome, slice_get}
use Rattle.milp.specs.Form.{Entry}
use Rattle.basis.specs.System.{System}

-- from the column `least` on
abbrev pub IsAscending : ℕ → List Entry → Type 0
IsAscending least [] = Unit {0}
IsAscending least (e ∷ es) = (least ≤ e.column) × IsAscending (e.column + 1) es

-- each form of the system, and its objective
pub record AreAscending (s : System) : Type 0 where
  pub forms : (k : ℕ) → IfSome (slice_get s.forms k) (IsAscending 0)
  pub objective : IsAscending 0 s.objective
