-- A problem with a column for each of some forms: a whole number, which a further row ties to the form's value.
use Rattle.std.specs.Prelude.{ℕ, suc, negsuc, ◌+◌, ◌≡◌, true, List, [], ◌∷◌, ◌++◌, map, length, Some, None}
use Rattle.rational.specs.Rational.{zero_ℚ, whole}
use Rattle.milp.specs.Form.{Entry}
use Rattle.milp.specs.Problem.{Column, Row, Problem}
use Rattle.row_columns.specs.RowForms.{AreRowForms}

-- the same form where `count` columns come to stand before the others
abbrev pub moved : ℕ → List Entry → List Entry
moved count form = map (λ (e : Entry). record { column = count + e.column; coefficient = e.coefficient }) form

abbrev pub moved_row : ℕ → Row → Row
moved_row count r = record { name = r.name; lower = r.lower; upper = r.upper; entries = moved count r.entries }

-- a column that is any whole number
pub record IsFormColumn (c : Column) : Type 0 where
  pub lower : c.lower ≡ None
  pub upper : c.upper ≡ None
  pub integer : c.integer ≡ true

abbrev pub AreFormColumns : List (List Entry) → List Column → Type 0
AreFormColumns [] columns = columns ≡ []
AreFormColumns (form ∷ forms) [] = ⊥
AreFormColumns (form ∷ forms) (c ∷ columns) = IsFormColumn c × AreFormColumns forms columns

-- the form minus the column: the row asks that it is 0
abbrev pub tying_form : ℕ → ℕ → List Entry → List Entry
tying_form count j form = record { column = j; coefficient = whole (negsuc 0) } ∷ moved count form

pub record IsTyingRow (count j : ℕ) (form : List Entry) (r : Row) : Type 0 where
  pub lower : r.lower ≡ Some zero_ℚ
  pub upper : r.upper ≡ Some zero_ℚ
  pub entries : r.entries ≡ tying_form count j form

-- the rows tie the columns from the j-th on to the forms
abbrev pub AreTyingRows : ℕ → ℕ → List (List Entry) → List Row → Type 0
AreTyingRows count j [] rows = rows ≡ []
AreTyingRows count j (form ∷ forms) [] = ⊥
AreTyingRows count j (form ∷ forms) (r ∷ rows) = IsTyingRow count j form r × AreTyingRows count (suc j) forms rows

-- q is p with a column for each form, before the others, and the rows that tie them, behind the others
pub record IsExtended (p : Problem) (forms : List (List Entry)) (q : Problem) : Type 0 where
  pub columns : List Column
  pub are_columns : AreFormColumns forms columns
  pub all_columns : q.columns ≡ columns ++ p.columns
  pub rows : List Row
  pub are_rows : AreTyingRows (length forms) 0 forms rows
  pub all_rows : q.rows ≡ map (moved_row (length forms)) p.rows ++ rows
  pub direction : q.direction ≡ p.direction
  pub objective : q.objective ≡ moved (length forms) p.objective
  pub constant : q.constant ≡ p.constant

-- q is p with a column for the whole form of each row that has one
pub record HasRowColumns (p q : Problem) : Type 0 where
  pub forms : List (List Entry)
  pub are_forms : AreRowForms p p.rows forms
  pub extended : IsExtended p forms q
