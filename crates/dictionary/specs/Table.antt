-- A dictionary as a table of numbers: a row for each basic variable, a column for each resting one.
use Rattle.std.specs.Prelude.{ℕ, zero, suc, ◌<◌, ◌≡◌, ◌≢◌, List, [], ◌∷◌, length, get_or, set, cond, Bool, true, false}
use Rattle.rational.specs.Rational.{Rational}
use Rattle.milp.specs.Form.{Entry, number_at}
use Rattle.basis.specs.Dictionary.{place_of, IsBasic, IsResting, Dictionary}
use Rattle.basis.specs.Pivots.{Operation, Plus, Minus, Times, DividedBy, IsPivotOperation}
use Rattle.fraction.specs.Answers.{DoesNotFit}
use Rattle.fraction.specs.declared.frac.NoFit.{NoFit}
use Rattle.fraction.specs.declared.frac.Op.{Op}
use Rattle.fraction.specs.declared.frac.Op.TheVariants.{Add, Sub, Mul, Div}
use Rattle.dictionary.specs.Rows.{IsSolved, IsSubstituted, IsSolvingFault, IsSubstitutionFault}
use Rattle.basis.specs.declared.Place.{Place}
use Rattle.basis.specs.declared.Place.TheVariants.{Basic, AtLower, AtUpper, AtZero}

-- the basis; the row of each basic variable, and the column of each resting one; the rows, and the numbers of the objective
pub record Table : Type 0 where
  pub places : List Place
  pub positions : List ℕ
  pub rows : List (List Rational)
  pub gains : List Rational

abbrev pub is_basic : Place → Bool
is_basic Basic = true
is_basic AtLower = false
is_basic AtUpper = false
is_basic AtZero = false

abbrev pub position_of : Table → ℕ → ℕ
position_of t v = get_or t.positions v 0

abbrev pub row_of : Table → ℕ → List Rational
row_of t v = get_or t.rows (position_of t v) []

-- the form with the numbers f at the resting variables from j on
abbrev pub resting_form : List Place → (ℕ → Rational) → ℕ → ℕ → List Entry
resting_form b f j zero = []
resting_form b f j (suc count) = cond (is_basic (place_of b j)) (resting_form b f (suc j) count) (record { column = j; coefficient = f j } ∷ resting_form b f (suc j) count)

-- the form over resting variables that a row of the table is
abbrev pub form_of_row : Table → List Rational → List Entry
form_of_row t row = resting_form t.places (λ j. number_at row (position_of t j)) 0 (length t.places)

-- the dictionary that the table is
abbrev pub dictionary_of : Table → Dictionary
dictionary_of t = record { row = λ v. form_of_row t (row_of t v); objective = form_of_row t t.gains }

-- the rows are as long as the objective's, and the positions lead to all of them and to all columns, each to its own
pub record IsTable (places : List Place) (positions : List ℕ) (rows : List (List Rational)) (gains : List Rational) : Type 0 where
  pub size : length positions ≡ length places
  pub widths : (i : ℕ) → i < length rows → length (get_or rows i []) ≡ length gains
  pub columns : (j : ℕ) → IsResting places j → get_or positions j 0 < length gains
  pub lines : (v : ℕ) → IsBasic places v → get_or positions v 0 < length rows
  pub columns_apart : (j k : ℕ) → IsResting places j → IsResting places k → get_or positions j 0 ≡ get_or positions k 0 → j ≡ k
  pub lines_apart : (v w : ℕ) → IsBasic places v → IsBasic places w → get_or positions v 0 ≡ get_or positions w 0 → v ≡ w
  pub every_column : (c : ℕ) → c < length gains → (j : ℕ) × IsResting places j × (get_or positions j 0 ≡ c)
  pub every_line : (i : ℕ) → i < length rows → (v : ℕ) × IsBasic places v × (get_or positions v 0 ≡ i)

-- ---- what a pivot does to the rows

-- each row but the one at `line` has the row `solved` put in for the place `column`; that one is as before
pub record AreSubstituted (old : List (List Rational)) (solved : List Rational) (line column : ℕ) (new : List (List Rational)) : Type 0 where
  pub count : length new ≡ length old
  pub others : (i : ℕ) → i < length old → i ≢ line → IsSubstituted (get_or old i []) solved column (get_or new i [])

-- e is a product or a sum of those that does not fit
pub record IsRowsFault (old : List (List Rational)) (solved : List Rational) (line column : ℕ) (e : NoFit) : Type 0 where
  pub row : ℕ
  pub known : row < length old
  pub other : row ≢ line
  pub fault : IsSubstitutionFault (get_or old row []) solved column e

-- the positions after q became basic in the place of r
abbrev pub moved_positions : List ℕ → ℕ → ℕ → List ℕ
moved_positions positions q r = set (set positions q (get_or positions r 0)) r (get_or positions q 0)

-- the row at `line` solved for the place `column`, and put in in the others and in the objective's
pub record ArePivoted (old : List (List Rational)) (gains : List Rational) (line column : ℕ) (new : List (List Rational)) (new_gains : List Rational) : Type 0 where
  pub count : length new ≡ length old
  pub solved : IsSolved (get_or old line []) column (get_or new line [])
  pub others : (i : ℕ) → i < length old → i ≢ line → IsSubstituted (get_or old i []) (get_or new line []) column (get_or new i [])
  pub objective : IsSubstituted gains (get_or new line []) column new_gains

-- e is an operation of these that does not fit
pub data IsPivotedFault (old : List (List Rational)) (gains : List Rational) (line column : ℕ) (e : NoFit) : Type 0 where
  in_line : IsSolvingFault (get_or old line []) column e → IsPivotedFault old gains line column e
  in_rows : (solved : List Rational) (i : ℕ) → IsSolved (get_or old line []) column solved → i < length old → i ≢ line → IsSubstitutionFault (get_or old i []) solved column e → IsPivotedFault old gains line column e
  in_objective : (solved : List Rational) → IsSolved (get_or old line []) column solved → IsSubstitutionFault gains solved column e → IsPivotedFault old gains line column e

-- what the fractions call an operation
abbrev pub operation_of : Op → Operation
operation_of Add = Plus
operation_of Sub = Minus
operation_of Mul = Times
operation_of Div = DividedBy

-- e is an operation of the pivot of q into the place of r, and does not fit
pub record IsPivotFault (t : Table) (q r : ℕ) (e : NoFit) : Type 0 where
  pub operation : IsPivotOperation t.places (dictionary_of t) q r e.a (operation_of e.op) e.b
  pub not_fit : DoesNotFit e
