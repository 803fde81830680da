-- What `table IN` adds to the data of a model (GNU MathProg Language Reference, section on the table statement), once the text of its
-- file is there.
use Rattle.std.specs.Prelude.{◌≡◌, ℕ, ◌+◌, List, [], ◌∷◌, drop, slice_get, Option, Some, None, Result, Ok, Err}
use Rattle.gmpl_resolved.specs.declared.statement.Numbered.{Numbered}
use Rattle.gmpl_resolved.specs.declared.statement.NumberedStep.{NumberedStep}
use Rattle.gmpl_resolved.specs.declared.statement.Step.{Step}
use Rattle.gmpl_resolved.specs.declared.statement.Step.TheVariants as step
use Rattle.gmpl_data.specs.declared.tables.DataTables.{DataTables}
use Rattle.gmpl_data.specs.declared.tables.Given.{Given}
use Rattle.gmpl_data.specs.declared.tables.LoadedModel.{LoadedModel}
use Rattle.csv_tables.specs.Outcome.{Outcome}
use Rattle.gmpl_table_data.specs.TableData.{with_table as data_with_table}
use Rattle.gmpl_generate.specs.declared.fault.ModelFault.{ModelFault}
use Rattle.gmpl_generate.specs.declared.fault.ModelFaultKind.TheVariants.{Table}
use Rattle.gmpl_generate.specs.declared.input_tables.Untaken.{Untaken}
use Rattle.gmpl_generate.specs.declared.input_tables.Untaken.TheVariants as untaken
use Rattle.gmpl_generate.specs.declared.turns.Pause.{Pause}
use Rattle.gmpl_generate.specs.Running.{fault_at}

-- the steps before a statement, or behind the last one
abbrev pub steps_by : List NumberedStep → Option Numbered → List NumberedStep
steps_by steps None = steps
steps_by steps (Some x) = x.steps

-- the step at which an execution pauses
abbrev pub step_of : List Numbered → List NumberedStep → Pause → Option NumberedStep
step_of statements steps p = slice_get (steps_by steps (slice_get statements p.place)) p.step

-- a fault is its statement's
abbrev pub told : NumberedStep → Outcome (List Given) → Result (List Given) ModelFault
told s (Ok objects) = Ok objects
told s (Err fault) = Err (fault_at s.number s.line (Table fault))

-- no execution pauses at another step
abbrev pub with_step : List Given → List ℕ → NumberedStep → Step → Result (List Given) ModelFault
with_step objects text s (step.TableInput t) = told s (data_with_table t text objects)
with_step objects text s (step.Action a) = Ok objects
with_step objects text s step.Solve = Ok objects

abbrev pub with_step_at : List Given → List ℕ → Option NumberedStep → Result (List Given) ModelFault
with_step_at objects text None = Ok objects
with_step_at objects text (Some s) = with_step objects text s s.step

abbrev pub in_model : LoadedModel → Result (List Given) ModelFault → Result LoadedModel ModelFault
in_model model (Ok objects) = Ok (record model { tables = record { objects = objects } })
in_model model (Err fault) = Err fault

-- the model with what the table gives at which its execution pauses, or the fault of the table's text
unfoldable pub with_table : LoadedModel → Pause → List ℕ → Result LoadedModel ModelFault
with_table model p text = in_model model (with_step_at model.tables.objects text (step_of model.statements model.steps p))

-- ---- the tables that are still to be read

abbrev pub tables_at : Step → ℕ
tables_at (step.TableInput t) = 1
tables_at (step.Action a) = 0
tables_at step.Solve = 0

-- the `table IN` statements among these steps
abbrev pub tables_in : List NumberedStep → ℕ
tables_in [] = 0
tables_in (s ∷ ss) = tables_at s.step + tables_in ss

-- those before these statements, and behind the last of them
abbrev pub tables_among : List Numbered → List NumberedStep → ℕ
tables_among [] steps = tables_in steps
tables_among (x ∷ xs) steps = tables_in x.steps + tables_among xs steps

-- those behind a step before the first of these statements
abbrev pub tables_behind : ℕ → List Numbered → List NumberedStep → ℕ
tables_behind place [] steps = tables_in (drop (place + 1) steps)
tables_behind place (x ∷ xs) steps = tables_in (drop (place + 1) x.steps) + tables_among xs steps

-- how many `table IN` statements stand behind that at which an execution pauses
unfoldable pub tables_left : LoadedModel → Pause → ℕ
tables_left model p = tables_behind p.step (drop p.place model.statements) model.steps

-- ---- a call goes the way of the definition; want of memory is free

abbrev pub Takes : {A : Type 0} → Result A ModelFault → Result A Untaken → Type 0
Takes right (Ok a) = right ≡ Ok a
Takes right (Err (untaken.Fault fault)) = right ≡ Err fault
Takes right (Err untaken.NoMemory) = Unit {0}

-- of data, which are seen as the list of what is given to each object
abbrev pub TakesData : Result (List Given) ModelFault → Result DataTables Untaken → Type 0
TakesData right (Ok tables) = right ≡ Ok tables.objects
TakesData right (Err (untaken.Fault fault)) = right ≡ Err fault
TakesData right (Err untaken.NoMemory) = Unit {0}
