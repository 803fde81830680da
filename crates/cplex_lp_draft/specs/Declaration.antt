-- What a CPLEX LP text has declared so far.
use Rattle.std.specs.Prelude.{ℕ, ◌==◌, nat_lt, nat_le, Bool, false, zero, suc, List, [], ◌∷◌, ◌++◌, length, not, filter, codes, None, Result, Ok, if◌then◌else◌}
use Rattle.std.specs.declared.option.Option.{Option}
use Rattle.std.specs.List.{position_or_len}
use Rattle.rational.specs.Rational.{Rational, zero_ℚ}
use Rattle.fraction.specs.Answers.{add_answer}
use Rattle.rational.specs.Compare.{is_zero}
use Rattle.milp.specs.Form.{Entry}
use Rattle.milp.specs.Problem.{Column, Row, Problem}
use Rattle.milp.specs.declared.Direction.{Direction}
use Rattle.milp.specs.declared.Direction.TheVariants.{Min}
use Rattle.model_text.specs.declared.fault.FaultKind.TheVariants.{TooMany}
use Rattle.model_text.specs.declared.fault.FileFault.{FileFault}
use Rattle.model_text.specs.declared.profile.Profile.{Profile}
use Rattle.cplex_lp_tokens.specs.declared.token.Relation.{Relation}
use Rattle.cplex_lp_draft.specs.declared.expecting.Expecting.{Expecting}
use Rattle.cplex_lp_draft.specs.declared.expecting.Expecting.TheVariants.{Start}
use Rattle.cplex_lp_tokens.specs.Tokens.{Token}
use Rattle.model_text.specs.Columns.{is_column_named, new_column}
use Rattle.model_text.specs.Steps.{then_do}
use Rattle.cplex_lp_draft.specs.Steps.{fault_at, fitting_at}

-- ---- the whole

-- what is read so far of a row that has begun
pub record OpenRow : Type 0 where
  -- the line of its first token
  pub line : ℕ
  -- the relation after the number on its left
  pub left : Option Relation
  pub lower : Option Rational
  pub upper : Option Rational
  -- the sum of the terms of each name, zeros too, in order of column
  pub form : List Entry

abbrev pub new_row : ℕ → OpenRow
new_row line = record { line = line; left = None; lower = None; upper = None; form = [] }

pub record Declaration : Type 0 where
  pub expecting : Expecting
  pub direction : Direction
  pub objective_name : List ℕ
  -- the sum of the terms of each name, zeros too, in order of column
  pub objective : List Entry
  pub constant : Rational
  -- the rows that have begun; until it is read to its end, the last one has its name alone
  pub rows : List Row
  -- the last row, as far as it is read
  pub open_row : OpenRow
  pub columns : List Column

-- without a name the objective is `obj`
abbrev pub nothing_declared : Declaration
nothing_declared = record {
  expecting = Start;
  direction = Min;
  objective_name = codes "obj";
  objective = [];
  constant = zero_ℚ;
  rows = [];
  open_row = new_row 0;
  columns = [];
}

-- another token comes next
abbrev pub now_expecting : Expecting → Declaration → Declaration
now_expecting next d = record d { expecting = next }

-- ---- forms, in order of column

-- a term in the place of its column, added to those of the same column from the left; the fault is at its line
abbrev pub added : ℕ → ℕ → Rational → List Entry → Result (List Entry) FileFault
added line j v [] = Ok (record { column = j; coefficient = v } ∷ [])
added line j v (e ∷ es) =
    if nat_lt j e.column then Ok (record { column = j; coefficient = v } ∷ e ∷ es)
    else if j == e.column then then_do (λ sum. Ok (record e { coefficient = sum } ∷ es)) (fitting_at line (add_answer e.coefficient v))
    else then_do (λ more. Ok (e ∷ more)) (added line j v es)

abbrev pub is_entry : Entry → Bool
is_entry e = not (is_zero e.coefficient)

-- a sum of 0 leaves no entry
abbrev pub entries_of : List Entry → List Entry
entries_of form = filter is_entry form

-- ---- columns, in order of first mention

-- the place of the column of a name; where there is none, the place that it would take
abbrev pub column_place : List ℕ → List Column → ℕ
column_place name columns = position_or_len (is_column_named name) columns

-- a column is there, since its name is mentioned
abbrev pub mentioned : Profile → Token → Declaration → Result Declaration FileFault
mentioned profile t d =
    if nat_lt (column_place t.text d.columns) (length d.columns) then Ok d
    else if nat_le profile.columns (length d.columns) then fault_at t.line TooMany
    else Ok (record d { columns = d.columns ++ new_column t.text false ∷ [] })

-- the element at a place changed by f
abbrev pub with_changed : {X : Type 0} → ℕ → (X → X) → List X → List X
with_changed place f [] = []
with_changed zero f (x ∷ xs) = f x ∷ xs
with_changed (suc place) f (x ∷ xs) = x ∷ with_changed place f xs

abbrev pub with_column : ℕ → (Column → Column) → Declaration → Declaration
with_column place f d = record d { columns = with_changed place f d.columns }

-- ---- the problem

abbrev pub problem_of : Declaration → Problem
problem_of d = record {
  columns = d.columns;
  rows = d.rows;
  direction = d.direction;
  objective_name = d.objective_name;
  objective = entries_of d.objective;
  constant = d.constant;
}
