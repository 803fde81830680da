-- What the execution of a model with its data makes, where it stops, and the problem that it means, or its first fault.
use Rattle.std.specs.Prelude.{◌≡◌, ◌<◌, ℕ, Bool, true, false, Result, Ok, Err, List, [], ◌∷◌, ◌+◌, ◌++◌, drop, map, string_bytes, if◌then◌else◌}
use Rattle.gmpl_resolved.specs.declared.statement.Attribute.{Attribute}
use Rattle.gmpl_resolved.specs.declared.statement.Attribute.TheVariants as a
use Rattle.gmpl_resolved.specs.declared.statement.Numbered.{Numbered}
use Rattle.gmpl_resolved.specs.declared.statement.Statement.{Statement}
use Rattle.gmpl_resolved.specs.declared.statement.Statement.TheVariants as statement
use Rattle.gmpl_data.specs.declared.tables.LoadedModel.{LoadedModel}
use Rattle.gmpl_rows.specs.declared.declared.Declared.{Declared}
use Rattle.gmpl_rows.specs.Draft.{Draft, no_rows}
use Rattle.gmpl_rows.specs.Problem.{column_members, problem_of, row_members}
use Rattle.gmpl_generate.specs.declared.fault.ModelFault.{ModelFault}
use Rattle.gmpl_generate.specs.declared.problem.End.{End}
use Rattle.gmpl_generate.specs.declared.problem.End.TheVariants as ends
use Rattle.gmpl_generate.specs.declared.problem.Generated.{Generated}
use Rattle.gmpl_generate.specs.declared.problem.Executed.{Executed}
use Rattle.gmpl_generate.specs.declared.turns.Pause.{Pause}
use Rattle.gmpl_generate.specs.declared.turns.Stopped.{Stopped}
use Rattle.gmpl_generate.specs.declared.turns.Stopped.TheVariants as stopped
use Rattle.gmpl_generate.specs.Running.{File, Made, Ran, Running, files_of, nothing_made, result_of, state_of}
use Rattle.gmpl_generate.specs.Execution.{executed_from, resumed_from}
use Rattle.gmpl_generate.specs.InputTables.{tables_left, with_table}

-- ---- what statements declare

abbrev pub is_whole_by : Attribute → Bool
is_whole_by a.Integer = true
is_whole_by a.Binary = true
is_whole_by _ = false

-- a variable's members are whole numbers: `integer` or `binary`
abbrev pub is_whole : List Attribute → Bool
is_whole [] = false
is_whole (x ∷ xs) = if is_whole_by x then true else is_whole xs

abbrev pub declared_as : List ℕ → Bool → Declared
declared_as name integer = record { name = name; integer = integer }

abbrev pub declared_by : Statement → Declared
declared_by (statement.Set d) = declared_as d.head.name false
declared_by (statement.Param d) = declared_as d.head.name false
declared_by (statement.Var d) = declared_as d.head.name (is_whole d.attributes)
declared_by (statement.Constraint c) = declared_as c.head.name false
declared_by (statement.Objective o) = declared_as o.head.name false

abbrev pub declared_at : Numbered → Declared
declared_at s = declared_by s.statement

-- statement by statement
abbrev pub all_declared : LoadedModel → List Declared
all_declared model = map declared_at model.statements

-- ---- the execution

-- a model with what tables gave so far, and where its execution stops
pub record Execution : Type 0 where
  pub model : LoadedModel
  pub stopped : Stopped

abbrev pub Executing : Type 0
Executing = Ran Made ModelFault Execution

abbrev pub of_model : LoadedModel → Ran Made ModelFault Stopped → Executing
of_model model (Ok r) = Ok (record { model = model; stopped = r.0 }, r.1)
of_model model (Err r) = Err r

abbrev pub all_executed : LoadedModel → Running Made ModelFault Stopped
all_executed model = executed_from model 0 model.statements model.steps (no_rows (all_declared model))

-- the rows that the statements make and what they print and write, up to `solve` or to the first table that is to be read, where
-- nothing is made before
unfoldable pub execution : LoadedModel → Executing
execution model = of_model model (all_executed model nothing_made)

-- ---- where a table is read

abbrev pub printed_so_far : List ℕ → Made
printed_so_far printed = record { printed = printed; files = [] }

abbrev pub from_pause : Pause → LoadedModel → Running Made ModelFault Stopped
from_pause p model = resumed_from model p.place (p.step + 1) (drop p.place model.statements) model.steps p.draft

abbrev pub resumed_by : Pause → List ℕ → Result LoadedModel ModelFault → Executing
resumed_by p printed (Ok model) = of_model model (from_pause p model (printed_so_far printed))
resumed_by p printed (Err fault) = Err (fault, printed_so_far printed)

-- the execution goes on behind the table with what its file's text gives, where this was printed; the files that are made from there
-- on
unfoldable pub resumed : LoadedModel → Pause → List ℕ → List ℕ → Executing
resumed model p printed text = resumed_by p printed (with_table model p text)

-- files that were made before
abbrev pub made_behind : List File → Made → Made
made_behind files made = record { printed = made.printed; files = files ++ made.files }

abbrev pub behind_files : List File → Executing → Executing
behind_files files (Ok r) = Ok (r.0, made_behind files r.1)
behind_files files (Err r) = Err (r.0, made_behind files r.1)

abbrev pub next_by : Execution → Made → Stopped → List ℕ → (Executing → Executing) → Executing
next_by e made (stopped.AtEnd d) text go = Ok (e, made)
next_by e made (stopped.AtTable p) text go = behind_files made.files (go (resumed e.model p made.printed text))

abbrev pub next : Executing → List ℕ → (Executing → Executing) → Executing
next (Ok r) text go = next_by r.0 r.1 r.0.stopped text go
next (Err r) text go = Err r

-- with the texts of the tables' files in the order in which they are read
abbrev pub with_texts : Executing → List (List ℕ) → Executing
with_texts run [] = run
with_texts run (text ∷ texts) = next run text (λ more. with_texts more texts)

-- ---- what a call answers

-- the problem of a draft, with the members that its columns and rows come from
pub record IsMade (d : Draft) (g : Generated) : Type 0 where
  pub problem : g.problem ≡ problem_of d
  pub columns : g.columns.items ≡ column_members d
  pub rows : g.rows.items ≡ row_members d

-- the execution is over, with these rows
abbrev pub IsOver : Stopped → Generated → Type 0
IsOver (stopped.AtEnd d) g = IsMade d g
IsOver (stopped.AtTable p) g = ⊥

abbrev pub IsProblemOf : Result Execution ModelFault → LoadedModel → Generated → Type 0
IsProblemOf (Ok e) model g = (e.model ≡ model) × IsOver e.stopped g
IsProblemOf (Err fault) model g = ⊥

abbrev pub IsEnd : Result Execution ModelFault → End → Type 0
IsEnd right (ends.Problem model g) = IsProblemOf right model g
IsEnd right (ends.Table model p) = right ≡ Ok (record { model = model; stopped = stopped.AtTable p })
IsEnd right (ends.Fault fault) = right ≡ Err fault

-- where it pauses again, it has fewer tables left to read
abbrev pub HasFewerLeft : ℕ → End → Type 0
HasFewerLeft count (ends.Table model p) = tables_left model p < count
HasFewerLeft count (ends.Problem model g) = Unit {0}
HasFewerLeft count (ends.Fault fault) = Unit {0}

-- what is made and where it ends
pub record IsExecuted (run : Executing) (e : Executed) : Type 0 where
  pub printed : string_bytes e.printed ≡ (state_of run).printed
  pub files : files_of e.files.items ≡ (state_of run).files
  pub end : IsEnd (result_of run) e.end
