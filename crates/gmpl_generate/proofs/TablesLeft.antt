-- Behind each table that is read fewer are left.
use Rattle.std.proofs.Common.{◌≡◌, ◌∙◌, ℕ, zero, suc, ◌+◌, ◌<◌, Bool, true, false, List, [], ◌∷◌, drop, Result, Ok, Err, refl, sym, ap, subst, arith}
use Rattle.std.specs.Prelude.{IfOk}
use Rattle.gmpl_resolved.specs.declared.statement.Action.{Action}
use Rattle.gmpl_resolved.specs.declared.statement.Numbered.{Numbered}
use Rattle.gmpl_resolved.specs.declared.statement.NumberedStep.{NumberedStep}
use Rattle.gmpl_resolved.specs.declared.statement.Step.{Step}
use Rattle.gmpl_resolved.specs.declared.statement.Step.TheVariants as step
use Rattle.gmpl_value.specs.Outcome.{Outcome, then_do}
use Rattle.gmpl_data.specs.declared.tables.Given.{Given}
use Rattle.gmpl_data.specs.declared.tables.LoadedModel.{LoadedModel}
use Rattle.gmpl_rows.specs.Draft.{Draft}
use Rattle.gmpl_generate.specs.declared.fault.ModelFault.{ModelFault}
use Rattle.gmpl_generate.specs.declared.problem.Executed.{Executed}
use Rattle.gmpl_generate.specs.declared.problem.End.{End}
use Rattle.gmpl_generate.specs.declared.problem.End.TheVariants as ends
use Rattle.gmpl_generate.specs.declared.steps.Reached.{Reached}
use Rattle.gmpl_generate.specs.declared.steps.Reached.TheVariants as reached
use Rattle.gmpl_generate.specs.declared.turns.Going.TheVariants as going
use Rattle.gmpl_generate.specs.declared.turns.Pause.{Pause}
use Rattle.gmpl_generate.specs.declared.turns.Stopped.{Stopped}
use Rattle.gmpl_generate.specs.declared.turns.Stopped.TheVariants as stopped
use Rattle.gmpl_generate.specs.Execution.{executed_from, last_steps, ending, onward, resumed_from, statement_executed, turn, turn_by}
use Rattle.gmpl_generate.specs.Faults.{of_statement}
use Rattle.gmpl_generate.specs.InputTables.{in_model, step_of, tables_among, tables_at, tables_behind, tables_in, tables_left, with_step_at, with_table}
use Rattle.gmpl_generate.specs.OutputTables.{file_name}
use Rattle.gmpl_generate.specs.Problem.{Execution, HasFewerLeft, IsEnd, IsExecuted, from_pause, of_model, printed_so_far, resumed, resumed_by}
use Rattle.gmpl_generate.specs.Running.{Made, Ran, and_then, beside, pure, result_of, ◌>>=◌}
use Rattle.gmpl_generate.specs.Steps.{before_by, on_from, performed, step_before, steps_before}

-- ---- what is looked at of a run

abbrev is_read : Reached → Bool
is_read (reached.Table at name) = true
is_read reached.End = false
is_read reached.Solve = false

abbrev reads : Ran Made ModelFault Reached → Bool
reads (Ok r) = is_read r.0
reads (Err r) = false

abbrev place_of : Reached → ℕ
place_of (reached.Table at name) = at
place_of reached.End = 0
place_of reached.Solve = 0

abbrev read_at : Ran Made ModelFault Reached → ℕ
read_at (Ok r) = place_of r.0
read_at (Err r) = 0

abbrev is_pause : Stopped → Bool
is_pause (stopped.AtTable p) = true
is_pause (stopped.AtEnd d) = false

abbrev pauses : Ran Made ModelFault Stopped → Bool
pauses (Ok r) = is_pause r.0
pauses (Err r) = false

abbrev statement_of : Stopped → ℕ
statement_of (stopped.AtTable p) = p.place
statement_of (stopped.AtEnd d) = 0

abbrev step_at : Stopped → ℕ
step_at (stopped.AtTable p) = p.step
step_at (stopped.AtEnd d) = 0

abbrev paused_at : Ran Made ModelFault Stopped → ℕ
paused_at (Ok r) = statement_of r.0
paused_at (Err r) = 0

abbrev paused_step : Ran Made ModelFault Stopped → ℕ
paused_step (Ok r) = step_at r.0
paused_step (Err r) = 0

never : false ≡ true → ⊥
never is = cc

abbrev rest_of : {T : Type 0} → List T → List T
rest_of [] = []
rest_of (x ∷ xs) = xs

drop_next : {T : Type 0} (n m : ℕ) (all : List T) (x : T) (xs : List T) → m ≡ suc n → drop n all ≡ x ∷ xs → drop m all ≡ xs
drop_next zero m [] x xs m_is is = cc
drop_next zero m (y ∷ ys) x xs m_is is = rw m_is (ap rest_of is)
drop_next (suc n) m [] x xs m_is is = cc
drop_next (suc n) m (y ∷ ys) x xs m_is is = rw m_is (drop_next n (suc n) ys x xs refl is)

abbrev table_at : ℕ → List ℕ → Made → Ran Made ModelFault Reached
table_at at name made = Ok (reached.Table at name, made)

abbrev at_pause : Pause → Made → Ran Made ModelFault Stopped
at_pause p made = Ok (stopped.AtTable p, made)

-- ---- a step that reads a table

record IsTable (place : ℕ) (x : Step) (at : ℕ) : Type 0 where
  here : at ≡ place
  one : tables_at x ≡ 1

module _ (model : LoadedModel) where
  at_step : (place : ℕ) (s : NumberedStep) (x : Step) (made after : Made) (at : ℕ) (name : List ℕ) → before_by model place s x made ≡ table_at at name after → IsTable place x at
  at_step place s (step.Action a) made after at name is = absurd (not_read (performed model s a made) is)
    where
      not_read : (ran : Ran Made ModelFault (Unit {0})) → and_then ran (λ _. pure reached.End) ≡ table_at at name after → ⊥
      not_read (Ok r) is = never (ap reads is)
      not_read (Err r) is = never (ap reads is)
  at_step place s (step.TableInput t) made after at name is = by (file_name model t.file []) is
    where
      by : (found : Outcome (List ℕ)) → beside (of_statement s.number s.line (then_do (λ text. Ok (reached.Table place text)) found)) made ≡ table_at at name after → IsTable place (step.TableInput t) at
      by (Ok text) is = record { here = sym (ap read_at is); one = refl }
      by (Err fault) is = absurd (never (ap reads is))
  at_step place s step.Solve made after at name is = absurd (never (ap reads is))

-- ---- steps up to one that reads a table

module _ (model : LoadedModel) (all : List NumberedStep) (after : Made) (at : ℕ) (name : List ℕ) where
  next_step : (n : ℕ) (s : NumberedStep) (ss : List NumberedStep) (made : Made) → drop n all ≡ s ∷ ss
      → ((m : Made) → steps_before model (n + 1) ss m ≡ table_at at name after → tables_in (drop (at + 1) all) < tables_in ss)
      → (ran : Ran Made ModelFault Reached) → step_before model n s made ≡ ran → and_then ran (λ r. on_from model r (steps_before model (n + 1) ss)) ≡ table_at at name after
      → tables_in (drop (at + 1) all) < tables_in (s ∷ ss)
  next_step n s ss made here rest (Err r) ran is = absurd (never (ap reads is))
  next_step n s ss made here rest (Ok r) ran is = by r.0 r.1 ran is
    where
      by : (r : Reached) (m : Made) → step_before model n s made ≡ Ok (r, m) → on_from model r (steps_before model (n + 1) ss) m ≡ table_at at name after → tables_in (drop (at + 1) all) < tables_in (s ∷ ss)
      by reached.End m ran is = let less = rest m is in omega (arith, less)
      by reached.Solve m ran is = absurd (never (ap reads is))
      by (reached.Table place text) m ran is =
          let same : place ≡ at = ap read_at is in
          let table = at_step model n s s.step made m place text ran in
          let one = table.one in
          let left : drop (at + 1) all ≡ ss = drop_next n (at + 1) all s ss (omega (arith, same, table.here)) here in
          rw left (omega (arith, one))

  fewer_steps : (n : ℕ) (ss : List NumberedStep) (made : Made) → drop n all ≡ ss → steps_before model n ss made ≡ table_at at name after → tables_in (drop (at + 1) all) < tables_in ss
  fewer_steps n [] made here is = absurd (never (ap reads is))
  fewer_steps n (s ∷ ss) made here is =
      next_step n s ss made here (λ m rest. fewer_steps (n + 1) ss m (drop_next n (n + 1) all s ss (omega arith) here) rest) (step_before model n s made) refl is

-- ---- statements with their steps

module _ (model : LoadedModel) (all : List Numbered) (steps : List NumberedStep) (after : Made) (p : Pause) where
  last_ones : (place from : ℕ) (d : Draft) (made : Made) → drop place all ≡ [] → last_steps model place from steps d made ≡ at_pause p after
      → tables_behind p.step (drop p.place all) steps < tables_in (drop from steps)
  last_ones place from d made here is = by (steps_before model from (drop from steps) made) refl is
    where
      at_reached : (r : Reached) (m : Made) → steps_before model from (drop from steps) made ≡ Ok (r, m) → pure (ending place d r) m ≡ at_pause p after → tables_behind p.step (drop p.place all) steps < tables_in (drop from steps)
      at_reached reached.End m ran is = absurd (never (ap pauses is))
      at_reached reached.Solve m ran is = absurd (never (ap pauses is))
      at_reached (reached.Table at name) m ran is =
          let less = fewer_steps model steps m at name from (drop from steps) made refl ran in
          let place_is : place ≡ p.place = ap paused_at is in
          let step_is : at ≡ p.step = ap paused_step is in
          subst (λ n. tables_behind n (drop p.place all) steps < tables_in (drop from steps)) step_is
          (subst (λ n. tables_behind at (drop n all) steps < tables_in (drop from steps)) place_is (rw here less))

      by : (ran : Ran Made ModelFault Reached) → steps_before model from (drop from steps) made ≡ ran → and_then ran (λ r. pure (ending place d r)) ≡ at_pause p after → tables_behind p.step (drop p.place all) steps < tables_in (drop from steps)
      by (Err r) ran is = absurd (never (ap pauses is))
      by (Ok r) ran is = at_reached r.0 r.1 ran is

  at_statement : (place from : ℕ) (x : Numbered) (xs : List Numbered) (d : Draft) (made : Made) → drop place all ≡ x ∷ xs
      → ((more : Draft) (m : Made) → executed_from model (place + 1) xs steps more m ≡ at_pause p after → tables_behind p.step (drop p.place all) steps < tables_among xs steps)
      → (turn model place from x d >>= (λ g. onward g (executed_from model (place + 1) xs steps))) made ≡ at_pause p after
      → tables_behind p.step (drop p.place all) steps < tables_in (drop from x.steps) + tables_among xs steps
  at_statement place from x xs d made here rest is = by (steps_before model from (drop from x.steps) made) refl is
    where
      executed : (m : Made) (ran : Result Draft ModelFault) → and_then (and_then (beside ran m) (λ more. pure (going.On more))) (λ g. onward g (executed_from model (place + 1) xs steps)) ≡ at_pause p after
          → tables_behind p.step (drop p.place all) steps < tables_in (drop from x.steps) + tables_among xs steps
      executed m (Ok more) is = let less = rest more m is in omega (arith, less)
      executed m (Err fault) is = absurd (never (ap pauses is))

      at_reached : (r : Reached) (m : Made) → steps_before model from (drop from x.steps) made ≡ Ok (r, m) → and_then (turn_by model place x d r m) (λ g. onward g (executed_from model (place + 1) xs steps)) ≡ at_pause p after
          → tables_behind p.step (drop p.place all) steps < tables_in (drop from x.steps) + tables_among xs steps
      at_reached reached.End m ran is = executed m (statement_executed model place x d) is
      at_reached reached.Solve m ran is = absurd (never (ap pauses is))
      at_reached (reached.Table at name) m ran is =
          let less = fewer_steps model x.steps m at name from (drop from x.steps) made refl ran in
          let place_is : place ≡ p.place = ap paused_at is in
          let step_is : at ≡ p.step = ap paused_step is in
          subst (λ n. tables_behind n (drop p.place all) steps < tables_in (drop from x.steps) + tables_among xs steps) step_is
          (subst (λ n. tables_behind at (drop n all) steps < tables_in (drop from x.steps) + tables_among xs steps) place_is (rw here (omega (arith, less))))

      by : (ran : Ran Made ModelFault Reached) → steps_before model from (drop from x.steps) made ≡ ran → and_then (and_then ran (λ r. turn_by model place x d r)) (λ g. onward g (executed_from model (place + 1) xs steps)) ≡ at_pause p after
          → tables_behind p.step (drop p.place all) steps < tables_in (drop from x.steps) + tables_among xs steps
      by (Err r) ran is = absurd (never (ap pauses is))
      by (Ok r) ran is = at_reached r.0 r.1 ran is

  from_start : (place : ℕ) (xs : List Numbered) (d : Draft) (made : Made) → drop place all ≡ xs → executed_from model place xs steps d made ≡ at_pause p after → tables_behind p.step (drop p.place all) steps < tables_among xs steps
  from_start place [] d made here is = last_ones place 0 d made here is
  from_start place (x ∷ xs) d made here is =
      at_statement place 0 x xs d made here (λ more m rest. from_start (place + 1) xs more m (drop_next place (place + 1) all x xs (omega arith) here) rest) is

  from_step : (place at : ℕ) (xs : List Numbered) (d : Draft) (made : Made) → drop place all ≡ xs → resumed_from model place (at + 1) xs steps d made ≡ at_pause p after → tables_behind p.step (drop p.place all) steps < tables_behind at xs steps
  from_step place at [] d made here is = last_ones place (at + 1) d made here is
  from_step place at (x ∷ xs) d made here is =
      at_statement place (at + 1) x xs d made here (λ more m rest. from_start (place + 1) xs more m (drop_next place (place + 1) all x xs (omega arith) here) rest) is

-- ---- behind a pause

abbrev model_of : LoadedModel → Result Execution ModelFault → LoadedModel
model_of other (Ok e) = e.model
model_of other (Err fault) = other

abbrev stopped_of : Stopped → Result Execution ModelFault → Stopped
stopped_of other (Ok e) = e.stopped
stopped_of other (Err fault) = other

abbrev ran_to : Made → Stopped → Ran Made ModelFault Stopped
ran_to made s = Ok (s, made)

abbrev is_ended : Result Execution ModelFault → Bool
is_ended (Ok e) = true
is_ended (Err fault) = false

abbrev at_table : LoadedModel → Pause → Result Execution ModelFault
at_table model p = Ok (record { model = model; stopped = stopped.AtTable p })

module _ (p : Pause) (m : LoadedModel) (q : Pause) where
  of_run : (model : LoadedModel) (made : Made) (ran : Ran Made ModelFault Stopped) → from_pause p model made ≡ ran → result_of (of_model model ran) ≡ at_table m q
      → tables_behind q.step (drop q.place m.statements) m.steps < tables_behind p.step (drop p.place model.statements) model.steps
  of_run model made (Err r) ran is = absurd (never (ap is_ended is))
  of_run model made (Ok r) ran is =
      let same : model ≡ m = ap (model_of m) is in
      let stops : r.0 ≡ stopped.AtTable q = ap (stopped_of (stopped.AtTable q)) is in
      let here : from_pause p model made ≡ at_pause q r.1 = ran ∙ ap (ran_to r.1) stops in
      subst (λ (w : LoadedModel). tables_behind q.step (drop q.place w.statements) w.steps < tables_behind p.step (drop p.place model.statements) model.steps) same
      (from_step model model.statements model.steps r.1 q p.place p.step (drop p.place model.statements) p.draft made refl here)

  fewer_at : (model : LoadedModel) (printed text : List ℕ) → result_of (resumed model p printed text) ≡ at_table m q → tables_left m q < tables_left model p
  unfolding resumed with_table tables_left
  fewer_at model printed text is = by (with_step_at model.tables.objects text (step_of model.statements model.steps p)) is
    where
      by : (given : Result (List Given) ModelFault) → result_of (resumed_by p printed (in_model model given)) ≡ at_table m q
          → tables_behind q.step (drop q.place m.statements) m.steps < tables_behind p.step (drop p.place model.statements) model.steps
      by (Ok objects) is =
          let more : LoadedModel = record model { tables = record { objects = objects } } in
          of_run more (printed_so_far printed) (from_pause p more (printed_so_far printed)) refl is
      by (Err fault) is = absurd (never (ap is_ended is))

pub fewer : (model : LoadedModel) (p : Pause) (printed text : List ℕ) (e : End) → IsEnd (result_of (resumed model p printed text)) e → HasFewerLeft (tables_left model p) e
fewer model p printed text (ends.Table m q) is = fewer_at p m q model printed text is
fewer model p printed text (ends.Problem m g) is = tt
fewer model p printed text (ends.Fault fault) is = tt

pub has_fewer_left : {E : Type 0} (model : LoadedModel) (p : Pause) (printed text : List ℕ) (r : Result Executed E) → IfOk r (IsExecuted (resumed model p printed text)) → IfOk r (λ e. HasFewerLeft (tables_left model p) e.end)
has_fewer_left model p printed text (Ok e) h = fewer model p printed text e.end h.end
has_fewer_left model p printed text (Err error) h = tt
