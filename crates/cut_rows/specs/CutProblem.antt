-- A problem with the cuts of a search as rows.
use Rattle.std.specs.Prelude.{◌<◌, ◌≡◌, List, [], ◌∷◌, ◌++◌, length, Some, None}
use Rattle.milp.specs.Problem.{Row, Problem}
use Rattle.instance.specs.WellFormed.{entry_count}
use Rattle.verdicts.specs.Certificate.{Derived}

-- the value of the cut's form is at least its bound
pub record IsCutRow (d : Derived) (r : Row) : Type 0 where
  pub lower : r.lower ≡ Some d.bound
  pub upper : r.upper ≡ None
  pub entries : r.entries ≡ d.form

abbrev pub AreCutRows : List Derived → List Row → Type 0
AreCutRows [] rows = rows ≡ []
AreCutRows (d ∷ cuts) [] = ⊥
AreCutRows (d ∷ cuts) (r ∷ rows) = IsCutRow d r × AreCutRows cuts rows

-- q is p with a row for each cut, behind the others
pub record IsCutProblem (p : Problem) (cuts : List Derived) (q : Problem) : Type 0 where
  pub columns : q.columns ≡ p.columns
  pub rows : List Row
  pub are_rows : AreCutRows cuts rows
  pub all_rows : q.rows ≡ p.rows ++ rows
  pub direction : q.direction ≡ p.direction
  pub objective : q.objective ≡ p.objective
  pub constant : q.constant ≡ p.constant

-- more rows than a problem may have, or more entries
pub data PassLimits (rows : List Row) : Type 0 where
  of_rows : 1000000 < length rows → PassLimits rows
  of_entries : 20000000 < entry_count rows → PassLimits rows

-- with these cuts the problem would pass the limits
abbrev pub IsTooLarge : Problem → List Derived → Type 0
IsTooLarge p cuts = (q : Problem) → IsCutProblem p cuts q → PassLimits q.rows
