-- The statements of a model in the order of the text, up to `solve`, to a table that is to be read, or to the first that faults (GNU
-- MathProg Language Reference, chapter on statements): a constraint or an objective makes a row at each element of its domain, steps
-- are performed, and no other statement evaluates anything.
use Rattle.std.specs.Prelude.{ℕ, ◌+◌, drop, Option, Result, Ok, List, [], ◌∷◌}
use Rattle.gmpl_resolved.specs.declared.statement.Constraint.{Constraint}
use Rattle.gmpl_resolved.specs.declared.statement.Numbered.{Numbered}
use Rattle.gmpl_resolved.specs.declared.statement.NumberedStep.{NumberedStep}
use Rattle.gmpl_resolved.specs.declared.statement.Objective.{Objective}
use Rattle.gmpl_resolved.specs.declared.statement.Statement.{Statement}
use Rattle.gmpl_resolved.specs.declared.statement.Statement.TheVariants as statement
use Rattle.gmpl_value.specs.declared.eval_fault.EvalFault.{EvalFault}
use Rattle.gmpl_value.specs.Outcome.{Outcome, then_do}
use Rattle.gmpl_data.specs.declared.tables.LoadedModel.{LoadedModel}
use Rattle.gmpl_meaning.specs.declared.walk.Element.{Element}
use Rattle.gmpl_meaning.specs.declared.walk.Walk.{Walk}
use Rattle.gmpl_meaning.specs.Expressions.{unless}
use Rattle.gmpl_meaning.specs.Members.{elements_of}
use Rattle.gmpl_rows.specs.Draft.{Draft}
use Rattle.gmpl_generate.specs.declared.fault.ModelFault.{ModelFault}
use Rattle.gmpl_generate.specs.Rows.{constraint_row, objective_row}
use Rattle.gmpl_generate.specs.declared.steps.Reached.{Reached}
use Rattle.gmpl_generate.specs.declared.steps.Reached.TheVariants as reached
use Rattle.gmpl_generate.specs.declared.turns.Going.{Going}
use Rattle.gmpl_generate.specs.declared.turns.Going.TheVariants as going
use Rattle.gmpl_generate.specs.declared.turns.Pause.{Pause}
use Rattle.gmpl_generate.specs.declared.turns.Stopped.{Stopped}
use Rattle.gmpl_generate.specs.declared.turns.Stopped.TheVariants as stopped
use Rattle.gmpl_generate.specs.Faults.{of_statement}
use Rattle.gmpl_generate.specs.Running.{Made, Running, ◌>>=◌, pure, beside}
use Rattle.gmpl_generate.specs.Steps.{steps_before}

-- ---- the elements of a domain in order; behind them its fault, where there is one

abbrev pub over : (Element → Draft → Outcome Draft) → List Element → Option EvalFault → Draft → Outcome Draft
over row [] fault d = unless fault (Ok d)
over row (e ∷ es) fault d = then_do (over row es fault) (row e d)

module _ (model : LoadedModel) (place : ℕ) where
  abbrev pub constraint_rows : Constraint → Walk → Draft → Outcome Draft
  constraint_rows c w d = over (constraint_row model place c) w.elements w.fault d

  abbrev pub objective_rows : Objective → Walk → Draft → Outcome Draft
  objective_rows o w d = over (objective_row model place o) w.elements w.fault d

  -- what the statement at a place makes
  abbrev pub executed : Statement → Draft → Outcome Draft
  executed (statement.Constraint c) d = constraint_rows c (elements_of model c.head.domain []) d
  executed (statement.Objective o) d = objective_rows o (elements_of model o.head.domain []) d
  executed _ d = Ok d

-- ---- the statements

-- at a step before the statement at a place, which reads a table of this name, with the rows so far
abbrev pub paused : ℕ → Draft → ℕ → List ℕ → Pause
paused place d step name = record { place = place; step = step; name = name; draft = d }

-- where the execution stands behind a statement
abbrev pub onward : Going → (Draft → Running Made ModelFault Stopped) → Running Made ModelFault Stopped
onward (going.Stopped s) go = pure s
onward (going.On d) go = go d

-- where it stops behind the last statement
abbrev pub ending : ℕ → Draft → Reached → Stopped
ending place d reached.End = stopped.AtEnd d
ending place d reached.Solve = stopped.AtEnd d
ending place d (reached.Table step name) = stopped.AtTable (paused place d step name)

module _ (model : LoadedModel) where
  abbrev pub statement_executed : ℕ → Numbered → Draft → Result Draft ModelFault
  statement_executed place x d = of_statement x.number x.line (executed model place x.statement d)

  abbrev pub turn_by : ℕ → Numbered → Draft → Reached → Running Made ModelFault Going
  turn_by place x d reached.End = beside (statement_executed place x d) >>= (λ more. pure (going.On more))
  turn_by place x d reached.Solve = pure (going.Stopped (stopped.AtEnd d))
  turn_by place x d (reached.Table step name) = pure (going.Stopped (stopped.AtTable (paused place d step name)))

  -- the steps before the statement at a place from one of them on, then the statement
  abbrev pub turn : ℕ → ℕ → Numbered → Draft → Running Made ModelFault Going
  turn place step x d = steps_before model step (drop step x.steps) >>= (λ r. turn_by place x d r)

  abbrev pub last_steps : ℕ → ℕ → List NumberedStep → Draft → Running Made ModelFault Stopped
  last_steps place step steps d = steps_before model step (drop step steps) >>= (λ r. pure (ending place d r))

  -- from the statement at a place on, then the last steps; behind `solve` nothing
  abbrev pub executed_from : ℕ → List Numbered → List NumberedStep → Draft → Running Made ModelFault Stopped
  executed_from place [] steps d = last_steps place 0 steps d
  executed_from place (x ∷ xs) steps d = turn place 0 x d >>= (λ g. onward g (executed_from (place + 1) xs steps))

  -- the same from a step before that statement on
  abbrev pub resumed_from : ℕ → ℕ → List Numbered → List NumberedStep → Draft → Running Made ModelFault Stopped
  resumed_from place step [] steps d = last_steps place step steps d
  resumed_from place step (x ∷ xs) steps d = turn place step x d >>= (λ g. onward g (executed_from (place + 1) xs steps))
