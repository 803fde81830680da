-- Forms in order of column.
use Rattle.std.specs.Prelude.{ℕ, ◌≡◌, true, List, slice_get, Some}
use Rattle.milp.specs.Problem.{Row, Problem}
use Rattle.verdicts.specs.Certificate.{Side, Derived}
use Rattle.basis.specs.Node.{split_form}
use Rattle.cert_check.specs.Parts.{ascending}

-- the forms of rows, derived rows and splits have their entries in ascending order of column
pub record AreFormsAscending (p : Problem) (ds : List Derived) (sides : List Side) : Type 0 where
  pub rows : (i : ℕ) (r : Row) → slice_get p.rows i ≡ Some r → ascending 0 r.entries ≡ true
  pub derived : (i : ℕ) (d : Derived) → slice_get ds i ≡ Some d → ascending 0 d.form ≡ true
  pub splits : (k : ℕ) (side : Side) → slice_get sides k ≡ Some side → ascending 0 (split_form side) ≡ true
