-- How much of a text is left behind a table at which its execution pauses: less behind each table that is read, so that no execution
-- reads tables without end.
use Rattle.std.specs.Prelude.{◌<◌, ℕ, Bool, true, false, suc, ◌+◌, ◌-◌, List, [], ◌∷◌, length, drop}
use Rattle.gmpl_resolved.specs.declared.statement.Numbered.{Numbered}
use Rattle.gmpl_resolved.specs.declared.statement.NumberedStep.{NumberedStep}
use Rattle.gmpl_data.specs.declared.tables.LoadedModel.{LoadedModel}
use Rattle.gmpl_generate.specs.declared.turns.Pause.{Pause}
use Rattle.gmpl_reader.specs.declared.read.Pending.{Pending}
use Rattle.command_line.specs.declared.settings.Settings.{Settings}
use Rattle.glpsol_cli.specs.Stages.{IsWaiting}
use Rattle.glpsol_cli.specs.declared.execution.Halt.{Halt}
use Rattle.glpsol_cli.specs.declared.execution.Halt.TheVariants.{End, Table, Unread}
use Rattle.glpsol_cli.specs.declared.execution.Waiting.{Waiting}
use Rattle.glpsol_cli.specs.declared.tables.Run.{Run}

-- the steps before these statements and behind the last of them, and as many statements
abbrev pub steps_in : List Numbered → List NumberedStep → ℕ
steps_in [] steps = suc (length steps)
steps_in (x ∷ xs) steps = suc (length x.steps + steps_in xs steps)

-- the same, but for the first so many steps before the first of the statements
abbrev pub steps_from : ℕ → List Numbered → List NumberedStep → ℕ
steps_from step [] steps = length steps - step
steps_from step (x ∷ xs) steps = (length x.steps - step) + steps_in xs steps

abbrev pub left_at : LoadedModel → Pause → ℕ
left_at model p = steps_from p.step (drop p.place model.statements) model.steps

abbrev pub left_behind : Pending → ℕ
left_behind pending = left_at pending.model pending.pause

-- where a run halts: at a table it is not over
abbrev pub left_of : Halt → ℕ
left_of (End end) = 0
left_of (Table w) = suc (left_behind w.pending)
left_of (Unread u) = 0

abbrev pub is_waiting : Halt → Bool
is_waiting (End end) = false
is_waiting (Table w) = true
is_waiting (Unread u) = false

-- it halts at the table of some texts
pub record IsSomeWaiting (s : Settings) (w : Waiting) : Type 0 where
  pub text : List ℕ
  pub data_texts : List (List ℕ)
  pub tables : List (List ℕ)
  pub waiting : IsWaiting s text data_texts tables w

abbrev pub IsSomeHalt : Settings → Halt → Type 0
IsSomeHalt s (End end) = Unit {0}
IsSomeHalt s (Table w) = IsSomeWaiting s w
IsSomeHalt s (Unread u) = Unit {0}

-- the run with the text of the table at which it halted
pub record IsNext (halt : Halt) (made : Run) : Type 0 where
  pub some : IsSomeHalt made.inputs.settings made.executed.halt
  pub less : left_of made.executed.halt < left_of halt

abbrev pub IsNextOf : Halt → Run → Type 0
IsNextOf (End end) made = Unit {0}
IsNextOf (Table w) made = IsNext (Table w) made
IsNextOf (Unread u) made = Unit {0}
