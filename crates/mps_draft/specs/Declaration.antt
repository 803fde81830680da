-- What a free MPS text has declared so far.
use Rattle.std.specs.Prelude.{ℕ, ◌+◌, Bool, true, false, List, [], ◌∷◌, length, Some, None, is_some, if◌then◌else◌}
use Rattle.std.specs.declared.option.Option.{Option}
use Rattle.std.specs.Option.{option_map}
use Rattle.std.specs.List.{list_any, find}
use Rattle.std.specs.Str.{bytes_eq}
use Rattle.rational.specs.Rational.{Rational}
use Rattle.milp.specs.Form.{Entry}
use Rattle.milp.specs.Problem.{Column}
use Rattle.milp.specs.declared.Direction.{Direction}
use Rattle.milp.specs.declared.Direction.TheVariants.{Min}
use Rattle.model_text.specs.Columns.{is_column_named}
use Rattle.mps_draft.specs.declared.section.Section.{Section}
use Rattle.mps_draft.specs.declared.section.Section.TheVariants.{Start, SenseGiven}
use Rattle.mps_draft.specs.declared.row.RowKind.{RowKind}
use Rattle.mps_draft.specs.declared.row.RowRange.{RowRange}
use Rattle.mps_draft.specs.declared.row.RowKind.TheVariants.{Objective, Free, AtMost, AtLeast, Exactly}

-- ---- rows

-- no bound stands on the row's value
abbrev pub is_free : RowKind → Bool
is_free Objective = true
is_free Free = true
is_free AtMost = false
is_free AtLeast = false
is_free Exactly = false

pub record DeclaredRow : Type 0 where
  pub name : List ℕ
  pub kind : RowKind
  -- what the columns have in it, but for zeros
  pub entries : List Entry
  -- the last column that gives it a number, which may be 0, counted from 1; 0 where none does
  pub latest : ℕ
  pub rhs : Option Rational
  pub range : Option RowRange

abbrev pub new_row : List ℕ → RowKind → DeclaredRow
new_row name kind = record { name = name; kind = kind; entries = []; latest = 0; rhs = None; range = None }

-- ---- the whole

-- the first N of ROWS is the objective and none of the rows
pub record Declaration : Type 0 where
  pub section : Section
  pub direction : Direction
  pub objective : Option DeclaredRow
  pub rows : List DeclaredRow
  pub columns : List Column
  -- the column whose lines may go on: the last one, or none
  pub current : Option (List ℕ)
  -- an INTORG stands open
  pub in_integers : Bool
  -- the set of the section's first line, where `None` is a set of its own
  pub first_set : Option (Option (List ℕ))

abbrev pub nothing_declared : Declaration
nothing_declared = record {
  section = Start;
  direction = Min;
  objective = None;
  rows = [];
  columns = [];
  current = None;
  in_integers = false;
  first_set = None;
}

-- each section has a first set of its own
abbrev pub in_section : Section → Declaration → Declaration
in_section section d = record d { section = section; first_set = None }

-- the objective is to be least or greatest
abbrev pub with_sense : Direction → Declaration → Declaration
with_sense direction d = record d { section = SenseGiven; direction = direction }

-- ---- what stands under a name

-- the first that passes the test, changed by f
abbrev pub with_first_changed : {A : Type 0} → (A → Bool) → (A → A) → List A → List A
with_first_changed test f [] = []
with_first_changed test f (x ∷ xs) = if test x then f x ∷ xs else x ∷ with_first_changed test f xs

abbrev pub is_row_named : List ℕ → DeclaredRow → Bool
is_row_named name r = bytes_eq r.name name

-- the objective has this name
abbrev pub is_objective_named : List ℕ → Option DeclaredRow → Bool
is_objective_named name None = false
is_objective_named name (Some objective) = is_row_named name objective

-- the objective or the row of this name
abbrev pub row_named : Declaration → List ℕ → Option DeclaredRow
row_named d name = if is_objective_named name d.objective then d.objective else find (is_row_named name) d.rows

abbrev pub is_row : Declaration → List ℕ → Bool
is_row d name = is_some (row_named d name)

-- the objective or the row of this name changed by f
abbrev pub with_row : (DeclaredRow → DeclaredRow) → List ℕ → Declaration → Declaration
with_row f name d =
    if is_objective_named name d.objective then record d { objective = option_map f d.objective }
    else record d { rows = with_first_changed (is_row_named name) f d.rows }

abbrev pub is_column : Declaration → List ℕ → Bool
is_column d name = list_any (is_column_named name) d.columns

-- the column whose lines may go on has this name
abbrev pub is_the_name : Option (List ℕ) → List ℕ → Bool
is_the_name None name = false
is_the_name (Some there) name = bytes_eq name there

-- ---- entries

-- the objective's aren't counted
abbrev pub entry_count : List DeclaredRow → ℕ
entry_count [] = 0
entry_count (r ∷ rs) = length r.entries + entry_count rs
