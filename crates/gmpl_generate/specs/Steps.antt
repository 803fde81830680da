-- The statements that declare nothing, up to `solve` and behind it (GNU MathProg Language Reference, sections on the solve statement
-- and on the table statement).
use Rattle.std.specs.Prelude.{ℕ, ◌+◌, Bool, true, false, Ok, Err, List, [], ◌∷◌}
use Rattle.gmpl_resolved.specs.declared.statement.Action.{Action}
use Rattle.gmpl_resolved.specs.declared.statement.NumberedStep.{NumberedStep}
use Rattle.gmpl_resolved.specs.declared.statement.Step.{Step}
use Rattle.gmpl_resolved.specs.declared.statement.Step.TheVariants as step
use Rattle.gmpl_resolved.specs.declared.statement.TableInput.{TableInput}
use Rattle.gmpl_value.specs.Outcome.{Outcome, then_do}
use Rattle.gmpl_data.specs.declared.tables.LoadedModel.{LoadedModel}
use Rattle.gmpl_generate.specs.declared.fault.ModelFault.{ModelFault}
use Rattle.gmpl_generate.specs.declared.fault.ModelFaultKind.{ModelFaultKind}
use Rattle.gmpl_generate.specs.declared.steps.Reached.{Reached}
use Rattle.gmpl_generate.specs.declared.steps.Reached.TheVariants as reached
use Rattle.gmpl_generate.specs.Faults.{of_statement}
use Rattle.gmpl_generate.specs.Running.{Made, Ran, Running, ◌>>=◌, beside, fault_at, pure}
use Rattle.gmpl_generate.specs.Actions.{action}
use Rattle.gmpl_generate.specs.OutputTables.{file_name}

-- ---- a fault is its statement's

abbrev pub located : {S A : Type 0} → ℕ → ℕ → Ran S ModelFaultKind A → Ran S ModelFault A
located number line (Ok r) = Ok r
located number line (Err r) = Err (fault_at number line r.0, r.1)

abbrev pub is_solve : Step → Bool
is_solve step.Solve = true
is_solve (step.TableInput t) = false
is_solve (step.Action a) = false

module _ (model : LoadedModel) where
  abbrev pub performed : NumberedStep → Action → Running Made ModelFault (Unit {0})
  performed s a made = located s.number s.line (action model a [] made)

  -- ---- up to `solve`, or to a table that is to be read; steps are counted from 0

  abbrev pub table_reached : ℕ → TableInput → Outcome Reached
  table_reached place t = then_do (λ name. Ok (reached.Table place name)) (file_name model t.file [])

  abbrev pub before_by : ℕ → NumberedStep → Step → Running Made ModelFault Reached
  before_by place s (step.Action a) = performed s a >>= (λ _. pure reached.End)
  before_by place s (step.TableInput t) = beside (of_statement s.number s.line (table_reached place t))
  before_by place s step.Solve = pure reached.Solve

  abbrev pub step_before : ℕ → NumberedStep → Running Made ModelFault Reached
  step_before place s = before_by place s s.step

  -- behind a step the next ones
  abbrev pub on_from : Reached → Running Made ModelFault Reached → Running Made ModelFault Reached
  on_from reached.End go = go
  on_from reached.Solve go = pure reached.Solve
  on_from (reached.Table place name) go = pure (reached.Table place name)

  abbrev pub steps_before : ℕ → List NumberedStep → Running Made ModelFault Reached
  steps_before place [] = pure reached.End
  steps_before place (s ∷ ss) = step_before place s >>= (λ r. on_from r (steps_before (place + 1) ss))

  -- ---- behind `solve`, where no table is read: whether it stands before what follows

  abbrev pub behind_by : NumberedStep → Step → Running Made ModelFault Bool
  behind_by s (step.Action a) = performed s a >>= (λ _. pure true)
  behind_by s (step.TableInput t) = pure true
  behind_by s step.Solve = pure true

  abbrev pub step_behind : NumberedStep → Running Made ModelFault Bool
  step_behind s = behind_by s s.step

  abbrev pub step_after : Bool → NumberedStep → Running Made ModelFault Bool
  step_after true s = step_behind s
  step_after false s = pure (is_solve s.step)

  abbrev pub steps_after : Bool → List NumberedStep → Running Made ModelFault Bool
  steps_after solved [] = pure solved
  steps_after solved (s ∷ ss) = step_after solved s >>= (λ after. steps_after after ss)
