-- Behind each table that is read less of a text is left.
use Rattle.std.proofs.Common.{◌≡◌, ◌∙◌, ◌≤◌, ◌<◌, ◌+◌, ◌-◌, ℕ, zero, suc, true, List, [], ◌∷◌, ◌++◌, length, drop, Result, Ok, Err, refl, sym, ap, subst, arith}
use Rattle.std.proofs.lemmas.List.{length-drop}
use Rattle.gmpl_resolved.specs.declared.statement.Numbered.{Numbered}
use Rattle.gmpl_resolved.specs.declared.statement.NumberedStep.{NumberedStep}
use Rattle.gmpl_resolved.specs.declared.statement.Step.{Step}
use Rattle.gmpl_resolved.specs.declared.statement.Step.TheVariants.{Action, TableInput, Solve}
use Rattle.gmpl_value.specs.Outcome.{Outcome, then_do}
use Rattle.gmpl_data.specs.declared.tables.Given.{Given}
use Rattle.gmpl_data.specs.declared.tables.LoadedModel.{LoadedModel}
use Rattle.gmpl_rows.specs.Draft.{Draft}
use Rattle.gmpl_generate.specs.Execution.{ending, executed_from, last_steps, onward, paused, resumed_from, statement_executed, turn, turn_by}
use Rattle.gmpl_generate.specs.Faults.{of_statement}
use Rattle.gmpl_generate.specs.InputTables.{in_model, step_of, with_step_at, with_table}
use Rattle.gmpl_generate.specs.Problem.{Execution, Executing, behind_files, execution, from_pause, made_behind, next, next_by, of_model, printed_so_far, resumed, resumed_by, with_texts}
use Rattle.gmpl_generate.specs.Running.{File, Made, Ran, Running, and_then, beside, fault_at, pure, result_of}
use Rattle.gmpl_generate.specs.Steps.{before_by, on_from, performed, step_before, steps_before}
use Rattle.gmpl_generate.specs.OutputTables.{file_name}
use Rattle.gmpl_generate.specs.declared.fault.ModelFault.{ModelFault}
use Rattle.gmpl_generate.specs.declared.fault.ModelFaultKind.TheVariants.{Evaluation}
use Rattle.gmpl_generate.specs.declared.steps.Reached.{Reached}
use Rattle.gmpl_generate.specs.declared.steps.Reached.TheVariants as reached
use Rattle.gmpl_generate.specs.declared.turns.Going.{Going}
use Rattle.gmpl_generate.specs.declared.turns.Going.TheVariants as going
use Rattle.gmpl_generate.specs.declared.turns.Pause.{Pause}
use Rattle.gmpl_generate.specs.declared.turns.Stopped.{Stopped}
use Rattle.gmpl_generate.specs.declared.turns.Stopped.TheVariants as stopped
use Rattle.gmpl_reader.specs.MathProg.{IsPending, executing, executing_model, loaded_model}
use Rattle.gmpl_reader.specs.declared.fault.MathProgFault.{MathProgFault}
use Rattle.gmpl_reader.specs.declared.read.Pending.{Pending}
use Rattle.glpsol_cli.specs.Left.{IsNext, IsNextOf, IsSomeHalt, IsSomeWaiting, is_waiting, left_at, left_behind, left_of, steps_from, steps_in}
use Rattle.glpsol_cli.specs.Stages.{IsHalt, IsHaltOrUnread, IsRun, IsTableExecuted, Moment}
use Rattle.glpsol_cli.specs.Asked.{ToldNames}
use Rattle.command_line.specs.declared.settings.Settings.{Settings}
use Rattle.glpsol_cli.specs.declared.execution.Executed.{Executed}
use Rattle.glpsol_cli.specs.declared.execution.Halt.{Halt}
use Rattle.glpsol_cli.specs.declared.execution.Halt.TheVariants as halts
use Rattle.glpsol_cli.specs.declared.execution.Waiting.{Waiting}
use Rattle.glpsol_cli.specs.declared.inputs.Inputs.{Inputs}
use Rattle.glpsol_cli.specs.declared.tables.Run.{Run}
use Rattle.outside.specs.Causes.{Rose}

-- a value or a fault, with what is made
abbrev ran : {A : Type 0} → A → Made → Ran Made ModelFault A
ran a m = Ok (a, m)

abbrev good : {A : Type 0} → A × Made → Ran Made ModelFault A
good r = Ok r

abbrev bad : {A : Type 0} → ModelFault × Made → Ran Made ModelFault A
bad f = Err f

abbrev value_of : {A : Type 0} → A × Made → A
value_of r = r.0

abbrev made_with : {A : Type 0} → A × Made → Made
made_with r = r.1

same_run : {A : Type 0} (x y : A × Made) → good x ≡ good y → x ≡ y
same_run x y e = cc

same_value : {A : Type 0} (a b : A) (m n : Made) → ran a m ≡ ran b n → a ≡ b
same_value a b m n e = ap value_of (same_run (a, m) (b, n) e)

not_bad : {A : Type 0} (f : ModelFault × Made) (a : A) (m : Made) → bad f ≡ ran a m → ⊥
not_bad f a m e = cc

-- ---- a step that reads a table

no_end : (n : ℕ) (name : List ℕ) → reached.End ≡ reached.Table n name → ⊥
no_end n name e = cc

no_solve : (n : ℕ) (name : List ℕ) → reached.Solve ≡ reached.Table n name → ⊥
no_solve n name e = cc

same_place : (n k : ℕ) (x y : List ℕ) → reached.Table n x ≡ reached.Table k y → n ≡ k
same_place n k x y e = cc

at_action : (r : Ran Made ModelFault (Unit {0})) (n : ℕ) (name : List ℕ) (m : Made) → and_then r (λ u. pure reached.End) ≡ ran (reached.Table n name) m → ⊥
at_action (Ok u) n name m e = no_end n name (same_value reached.End (reached.Table n name) u.1 m e)
at_action (Err f) n name m e = not_bad f (reached.Table n name) m e

abbrev table_named : ℕ → List ℕ → Outcome Reached
table_named place name = Ok (reached.Table place name)

at_table : (place number line : ℕ) (o : Outcome (List ℕ)) (n : ℕ) (name : List ℕ) (made m : Made) → beside (of_statement number line (then_do (table_named place) o)) made ≡ ran (reached.Table n name) m → n ≡ place
at_table place number line (Ok found) n name made m e = sym (same_place place n found name (same_value (reached.Table place found) (reached.Table n name) made m e))
at_table place number line (Err f) n name made m e = absurd (not_bad (fault_at number line (Evaluation f), made) (reached.Table n name) m e)

-- it is at its own place
at_step : (model : LoadedModel) (place : ℕ) (s : NumberedStep) (step : Step) (n : ℕ) (name : List ℕ) (made m : Made) → before_by model place s step made ≡ ran (reached.Table n name) m → n ≡ place
at_step model place s (Action a) n name made m e = absurd (at_action (performed model s a made) n name m e)
at_step model place s (TableInput t) n name made m e = at_table place s.number s.line (file_name model t.file []) n name made m e
at_step model place s Solve n name made m e = absurd (no_solve n name (same_value reached.Solve (reached.Table n name) made m e))

-- among steps it is one of them
record IsAmong (n place count : ℕ) : Type 0 where
  from : place ≤ n
  below : n < place + count

among_rest : (n place count : ℕ) → IsAmong n (place + 1) count → IsAmong n place (suc count)
among_rest n place count h =
    let from = h.from in
    let below = h.below in
    record { from = omega (arith, from); below = omega (arith, below) }

among_first : (n place count : ℕ) → n ≡ place → IsAmong n place (suc count)
among_first n place count is = record { from = omega (arith, is); below = omega (arith, is) }

on_reached : (model : LoadedModel) (place count : ℕ) (go : Running Made ModelFault Reached) → ((n : ℕ) (name : List ℕ) (made m : Made) → go made ≡ ran (reached.Table n name) m → IsAmong n (place + 1) count)
    → (q : Reached) (made : Made) (n : ℕ) (name : List ℕ) (m : Made) → ((k : ℕ) (other : List ℕ) → q ≡ reached.Table k other → k ≡ place) → on_from model q go made ≡ ran (reached.Table n name) m → IsAmong n place (suc count)
on_reached model place count go rest reached.End made n name m here e = among_rest n place count (rest n name made m e)
on_reached model place count go rest reached.Solve made n name m here e = absurd (no_solve n name (same_value reached.Solve (reached.Table n name) made m e))
on_reached model place count go rest (reached.Table k other) made n name m here e =
    among_first n place count (sym (same_place k n other name (same_value (reached.Table k other) (reached.Table n name) made m e)) ∙ here k other refl)

on_step : (model : LoadedModel) (place count : ℕ) (go : Running Made ModelFault Reached) → ((n : ℕ) (name : List ℕ) (made m : Made) → go made ≡ ran (reached.Table n name) m → IsAmong n (place + 1) count)
    → (r : Ran Made ModelFault Reached) (n : ℕ) (name : List ℕ) (m : Made) → ((k : ℕ) (other : List ℕ) (m' : Made) → r ≡ ran (reached.Table k other) m' → k ≡ place)
    → and_then r (λ q. on_from model q go) ≡ ran (reached.Table n name) m → IsAmong n place (suc count)
on_step model place count go rest (Err f) n name m here e = absurd (not_bad f (reached.Table n name) m e)
on_step model place count go rest (Ok x) n name m here e = on_reached model place count go rest x.0 x.1 n name m (λ k other is. here k other x.1 (ap (λ (q : Reached). ran q x.1) is)) e

among_steps : (model : LoadedModel) (ss : List NumberedStep) (place n : ℕ) (name : List ℕ) (made m : Made) → steps_before model place ss made ≡ ran (reached.Table n name) m → IsAmong n place (length ss)
among_steps model [] place n name made m e = absurd (no_end n name (same_value reached.End (reached.Table n name) made m e))
among_steps model (s ∷ ss) place n name made m e =
    on_step model place (length ss) (steps_before model (place + 1) ss) (among_steps model ss (place + 1)) (step_before model place s made) n name m (λ k other m'. at_step model place s s.step k other made m') e

-- ---- where an execution pauses

-- before this statement, at this step or a later one
record IsHere (place step : ℕ) (steps : List NumberedStep) (p : Pause) : Type 0 where
  place_is : p.place ≡ place
  from : step ≤ p.step
  below : p.step < length steps

at_end_no : (d : Draft) (p : Pause) → stopped.AtEnd d ≡ stopped.AtTable p → ⊥
at_end_no d p e = cc

same_pause : (p q : Pause) → stopped.AtTable p ≡ stopped.AtTable q → p ≡ q
same_pause p q e = cc

same_stop : (s t : Stopped) → going.Stopped s ≡ going.Stopped t → s ≡ t
same_stop s t e = cc

going_no : (d : Draft) (s : Stopped) → going.On d ≡ going.Stopped s → ⊥
going_no d s e = cc

here_is : (place step n : ℕ) (steps : List NumberedStep) (d : Draft) (name : List ℕ) (p : Pause) → IsAmong n step (length (drop step steps)) → paused place d n name ≡ p → IsHere place step steps p
here_is place step n steps d name p h e =
    let from = h.from in
    let below : n < step + (length steps - step) = subst (λ k. n < step + k) (length-drop step steps) h.below in
    subst (IsHere place step steps) e (record { place_is = refl; from = from; below = omega (arith, from, below) })

-- behind the last statement
last_reached : (place step : ℕ) (steps : List NumberedStep) (d : Draft) (q : Reached) (made : Made) (p : Pause) (m : Made) → ((n : ℕ) (name : List ℕ) → q ≡ reached.Table n name → IsAmong n step (length (drop step steps)))
    → ran (ending place d q) made ≡ ran (stopped.AtTable p) m → IsHere place step steps p
last_reached place step steps d reached.End made p m among e = absurd (at_end_no d p (same_value (stopped.AtEnd d) (stopped.AtTable p) made m e))
last_reached place step steps d reached.Solve made p m among e = absurd (at_end_no d p (same_value (stopped.AtEnd d) (stopped.AtTable p) made m e))
last_reached place step steps d (reached.Table n name) made p m among e =
    here_is place step n steps d name p (among n name refl) (same_pause (paused place d n name) p (same_value (stopped.AtTable (paused place d n name)) (stopped.AtTable p) made m e))

last_here : (place step : ℕ) (steps : List NumberedStep) (d : Draft) (r : Ran Made ModelFault Reached) (p : Pause) (m : Made) → ((n : ℕ) (name : List ℕ) (m' : Made) → r ≡ ran (reached.Table n name) m' → IsAmong n step (length (drop step steps)))
    → and_then r (λ q. pure (ending place d q)) ≡ ran (stopped.AtTable p) m → IsHere place step steps p
last_here place step steps d (Err f) p m among e = absurd (not_bad f (stopped.AtTable p) m e)
last_here place step steps d (Ok x) p m among e = last_reached place step steps d x.0 x.1 p m (λ n name is. among n name x.1 (ap (λ (q : Reached). ran q x.1) is)) e

-- before a statement
executed_no : (r : Result Draft ModelFault) (made : Made) (s : Stopped) (m : Made) → and_then (beside r made) (λ more. pure (going.On more)) ≡ ran (going.Stopped s) m → ⊥
executed_no (Ok d) made s m e = going_no d s (same_value (going.On d) (going.Stopped s) made m e)
executed_no (Err f) made s m e = not_bad (f, made) (going.Stopped s) m e

turn_reached : (model : LoadedModel) (place step : ℕ) (x : Numbered) (d : Draft) (q : Reached) (made : Made) (p : Pause) (m : Made) → ((n : ℕ) (name : List ℕ) → q ≡ reached.Table n name → IsAmong n step (length (drop step x.steps)))
    → turn_by model place x d q made ≡ ran (going.Stopped (stopped.AtTable p)) m → IsHere place step x.steps p
turn_reached model place step x d reached.End made p m among e = absurd (executed_no (statement_executed model place x d) made (stopped.AtTable p) m e)
turn_reached model place step x d reached.Solve made p m among e =
    absurd (at_end_no d p (same_stop (stopped.AtEnd d) (stopped.AtTable p) (same_value (going.Stopped (stopped.AtEnd d)) (going.Stopped (stopped.AtTable p)) made m e)))
turn_reached model place step x d (reached.Table n name) made p m among e =
    let q : Pause = paused place d n name in
    here_is place step n x.steps d name p (among n name refl) (same_pause q p (same_stop (stopped.AtTable q) (stopped.AtTable p) (same_value (going.Stopped (stopped.AtTable q)) (going.Stopped (stopped.AtTable p)) made m e)))

turn_here : (model : LoadedModel) (place step : ℕ) (x : Numbered) (d : Draft) (r : Ran Made ModelFault Reached) (p : Pause) (m : Made) → ((n : ℕ) (name : List ℕ) (m' : Made) → r ≡ ran (reached.Table n name) m' → IsAmong n step (length (drop step x.steps)))
    → and_then r (λ q. turn_by model place x d q) ≡ ran (going.Stopped (stopped.AtTable p)) m → IsHere place step x.steps p
turn_here model place step x d (Err f) p m among e = absurd (not_bad f (going.Stopped (stopped.AtTable p)) m e)
turn_here model place step x d (Ok y) p m among e = turn_reached model place step x d y.0 y.1 p m (λ n name is. among n name y.1 (ap (λ (q : Reached). ran q y.1) is)) e

-- ---- what is left from there on

tail_is : (n : ℕ) (all : List Numbered) (x : Numbered) (xs : List Numbered) → x ∷ xs ≡ drop n all → xs ≡ drop (suc n) all
tail_is zero [] x xs e = cc
tail_is (suc n) [] x xs e = cc
tail_is zero (y ∷ ys) x xs e = cc
tail_is (suc n) (y ∷ ys) x xs e = tail_is n ys x xs e

next_is : (n : ℕ) (all : List Numbered) (x : Numbered) (xs : List Numbered) → x ∷ xs ≡ drop n all → xs ≡ drop (n + 1) all
next_is n all x xs e =
    let one : suc n ≡ n + 1 = omega arith in
    subst (λ k. xs ≡ drop k all) one (tail_is n all x xs e)

left_here : (all : List Numbered) (place step : ℕ) (x : Numbered) (xs : List Numbered) (steps : List NumberedStep) (p : Pause) → x ∷ xs ≡ drop place all → IsHere place step x.steps p → steps_from p.step (drop p.place all) steps ≡ (length x.steps - p.step) + steps_in xs steps
left_here all place step x xs steps p is h = ap (λ k. steps_from p.step (drop k all) steps) h.place_is ∙ ap (λ ys. steps_from p.step ys steps) (sym is)

left_last : (all : List Numbered) (place step : ℕ) (steps : List NumberedStep) (p : Pause) → [] ≡ drop place all → IsHere place step steps p → steps_from p.step (drop p.place all) steps ≡ length steps - p.step
left_last all place step steps p is h = ap (λ k. steps_from p.step (drop k all) steps) h.place_is ∙ ap (λ ys. steps_from p.step ys steps) (sym is)

abbrev Fewer : List Numbered → List NumberedStep → Pause → ℕ → Type 0
Fewer all steps p most = steps_from p.step (drop p.place all) steps < most

module _ (model : LoadedModel) (all : List Numbered) (steps : List NumberedStep) where
  -- behind the last statement
  fewer_last : (place step most : ℕ) → [] ≡ drop place all → ((n : ℕ) → step ≤ n → n < length steps → length steps - n < most) → (d : Draft) (made : Made) (p : Pause) (m : Made) → last_steps model place step steps d made ≡ ran (stopped.AtTable p) m → Fewer all steps p most
  fewer_last place step most is bound d made p m e =
      let h = last_here place step steps d (steps_before model step (drop step steps) made) p m (λ n name m' e'. among_steps model (drop step steps) step n name made m' e') e in
      subst (λ n. n < most) (sym (left_last all place step steps p is h)) (bound p.step h.from h.below)

  -- before a statement, or behind it
  fewer_going : (place step most : ℕ) (x : Numbered) (xs : List Numbered) → x ∷ xs ≡ drop place all → ((n : ℕ) → step ≤ n → n < length x.steps → (length x.steps - n) + steps_in xs steps < most) → steps_in xs steps ≤ most
      → ((d : Draft) (made : Made) (p : Pause) (m : Made) → executed_from model (place + 1) xs steps d made ≡ ran (stopped.AtTable p) m → Fewer all steps p (steps_in xs steps))
      → (d : Draft) (made : Made) (g : Going) (made' : Made) → turn model place step x d made ≡ ran g made' → (p : Pause) (m : Made) → onward g (executed_from model (place + 1) xs steps) made' ≡ ran (stopped.AtTable p) m → Fewer all steps p most
  fewer_going place step most x xs is bound within rest d made (going.Stopped s) made' t p m e =
      let same : s ≡ stopped.AtTable p = same_value s (stopped.AtTable p) made' m e in
      let h = turn_here model place step x d (steps_before model step (drop step x.steps) made) p made' (λ n name m' e'. among_steps model (drop step x.steps) step n name made m' e') (t ∙ ap (λ (w : Stopped). ran (going.Stopped w) made') same) in
      subst (λ n. n < most) (sym (left_here all place step x xs steps p is h)) (bound p.step h.from h.below)
  fewer_going place step most x xs is bound within rest d made (going.On more) made' t p m e =
      let fewer = rest more made' p m e in
      omega (arith, fewer, within)

  fewer_turn : (place step most : ℕ) (x : Numbered) (xs : List Numbered) → x ∷ xs ≡ drop place all → ((n : ℕ) → step ≤ n → n < length x.steps → (length x.steps - n) + steps_in xs steps < most) → steps_in xs steps ≤ most
      → ((d : Draft) (made : Made) (p : Pause) (m : Made) → executed_from model (place + 1) xs steps d made ≡ ran (stopped.AtTable p) m → Fewer all steps p (steps_in xs steps))
      → (d : Draft) (made : Made) (r : Ran Made ModelFault Going) → turn model place step x d made ≡ r → (p : Pause) (m : Made) → and_then r (λ g. onward g (executed_from model (place + 1) xs steps)) ≡ ran (stopped.AtTable p) m → Fewer all steps p most
  fewer_turn place step most x xs is bound within rest d made (Err f) t p m e = absurd (not_bad f (stopped.AtTable p) m e)
  fewer_turn place step most x xs is bound within rest d made (Ok y) t p m e = fewer_going place step most x xs is bound within rest d made y.0 y.1 t p m e

  fewer_behind : (xs : List Numbered) (place : ℕ) → xs ≡ drop place all → (d : Draft) (made : Made) (p : Pause) (m : Made) → executed_from model place xs steps d made ≡ ran (stopped.AtTable p) m → Fewer all steps p (steps_in xs steps)
  fewer_behind [] place is d made p m e = fewer_last place 0 (suc (length steps)) is (λ n from below. omega (arith, from, below)) d made p m e
  fewer_behind (x ∷ xs) place is d made p m e =
      fewer_turn place 0 (suc (length x.steps + steps_in xs steps)) x xs is (λ n from below. omega (arith, from, below)) (omega arith) (fewer_behind xs (place + 1) (next_is place all x xs is)) d made (turn model place 0 x d made) refl p m e

  -- behind a table
  fewer_resumed : (xs : List Numbered) (place step : ℕ) → xs ≡ drop place all → (d : Draft) (made : Made) (p : Pause) (m : Made) → resumed_from model place (step + 1) xs steps d made ≡ ran (stopped.AtTable p) m → Fewer all steps p (steps_from step xs steps)
  fewer_resumed [] place step is d made p m e = fewer_last place (step + 1) (length steps - step) is (λ n from below. omega (arith, from, below)) d made p m e
  fewer_resumed (x ∷ xs) place step is d made p m e =
      fewer_turn place (step + 1) ((length x.steps - step) + steps_in xs steps) x xs is (λ n from below. omega (arith, from, below)) (omega arith) (fewer_behind xs (place + 1) (next_is place all x xs is)) d made (turn model place (step + 1) x d made) refl p m e

-- ---- with the text of a table

abbrev at_pause : LoadedModel → Pause → Execution
at_pause model p = record { model = model; stopped = stopped.AtTable p }

abbrev ends_at : Execution → Result Execution ModelFault
ends_at e = Ok e

abbrev fails_by : ModelFault → Result Execution ModelFault
fails_by f = Err f

same_end : (e f : Execution) → ends_at e ≡ ends_at f → e ≡ f
same_end e f same = cc

no_fault : (f : ModelFault) (e : Execution) → fails_by f ≡ ends_at e → ⊥
no_fault f e same = cc

-- the table's text changes no statement
abbrev with_objects : LoadedModel → List Given → LoadedModel
with_objects model objects = record model { tables = record { objects = objects } }

module _ (model : LoadedModel) (p : Pause) (printed : List ℕ) (more : LoadedModel) (q : Pause) where
  by_run : (objects : List Given) (r : Ran Made ModelFault Stopped) → from_pause p (with_objects model objects) (printed_so_far printed) ≡ r → result_of (of_model (with_objects model objects) r) ≡ ends_at (at_pause more q) → left_at more q < left_at model p
  by_run objects (Err f) runs e = absurd (no_fault f.0 (at_pause more q) e)
  by_run objects (Ok s) runs e =
      let made : LoadedModel = with_objects model objects in
      let same : record { model = made; stopped = s.0 } ≡ at_pause more q = same_end (record { model = made; stopped = s.0 }) (at_pause more q) e in
      let model_is : made ≡ more = ap (λ (x : Execution). x.model) same in
      let stopped_is : s.0 ≡ stopped.AtTable q = ap (λ (x : Execution). x.stopped) same in
      subst (λ (x : LoadedModel). left_at x q < left_at model p) model_is
      (fewer_resumed made made.statements made.steps (drop p.place made.statements) p.place p.step refl p.draft (printed_so_far printed) q s.1 (runs ∙ ap (λ (t : Stopped). ran t s.1) stopped_is))

  by_table : (r : Result (List Given) ModelFault) → result_of (resumed_by p printed (in_model model r)) ≡ ends_at (at_pause more q) → left_at more q < left_at model p
  by_table (Ok objects) e = by_run objects (from_pause p (with_objects model objects) (printed_so_far printed)) refl e
  by_table (Err f) e = absurd (no_fault f (at_pause more q) e)

fewer_left : (model : LoadedModel) (p : Pause) (text printed : List ℕ) (more : LoadedModel) (q : Pause) → result_of (resumed model p printed text) ≡ ends_at (at_pause more q) → left_at more q < left_at model p
unfolding resumed with_table
fewer_left model p text printed more q e = by_table model p printed more q (with_step_at model.tables.objects text (step_of model.statements model.steps p)) e

-- ---- with the texts of all tables

result_behind : (files : List File) (run : Executing) → result_of (behind_files files run) ≡ result_of run
result_behind files (Ok e) = refl
result_behind files (Err f) = refl

over_no : (x y : LoadedModel) (d : Draft) (p : Pause) → record { model = x; stopped = stopped.AtEnd d } ≡ at_pause y p → ⊥
over_no x y d p e = at_end_no d p (ap (λ (z : Execution). z.stopped) e)

abbrev OneMore : List (List ℕ) → List ℕ → Type 0
OneMore texts text = (run : Executing) (model : LoadedModel) (p : Pause) (m : Made) → with_texts run texts ≡ ran (at_pause model p) m → result_of (with_texts run (texts ++ text ∷ [])) ≡ result_of (resumed model p m.printed text)

module _ (texts : List (List ℕ)) (text : List ℕ) (rest : OneMore texts text) (model : LoadedModel) (p : Pause) (m : Made) where
  behind_run : (files : List File) (run w : Executing) → with_texts run texts ≡ w → behind_files files w ≡ ran (at_pause model p) m → result_of (behind_files files (with_texts run (texts ++ text ∷ []))) ≡ result_of (resumed model p m.printed text)
  behind_run files run (Err f) is e = absurd (not_bad (f.0, made_behind files f.1) (at_pause model p) m e)
  behind_run files run (Ok x) is e =
      let pair : (x.0, made_behind files x.1) ≡ (at_pause model p, m) = same_run (x.0, made_behind files x.1) (at_pause model p, m) e in
      let here : x.0 ≡ at_pause model p = ap value_of pair in
      let made : made_behind files x.1 ≡ m = ap made_with pair in
      let printed : x.1.printed ≡ m.printed = ap (λ (a : Made). a.printed) made in
      result_behind files (with_texts run (texts ++ text ∷ []))
      ∙ rest run model p x.1 (is ∙ ap (λ (y : Execution). ran y x.1) here)
      ∙ ap (λ t. result_of (resumed model p t text)) printed

  behind_stop : (t : List ℕ) (x : LoadedModel) (n : Made) (s : Stopped) → next_by (record { model = x; stopped = s }) n s t (λ more. with_texts more texts) ≡ ran (at_pause model p) m
      → result_of (next_by (record { model = x; stopped = s }) n s t (λ more. with_texts more (texts ++ text ∷ []))) ≡ result_of (resumed model p m.printed text)
  behind_stop t x n (stopped.AtEnd d) e = absurd (over_no x model d p (same_value (record { model = x; stopped = stopped.AtEnd d }) (at_pause model p) n m e))
  behind_stop t x n (stopped.AtTable q) e = behind_run n.files (resumed x q n.printed t) (with_texts (resumed x q n.printed t) texts) refl e

more_behind : (t : List ℕ) (texts : List (List ℕ)) (text : List ℕ) → OneMore texts text → OneMore (t ∷ texts) text
more_behind t texts text rest (Ok x) model p m e = behind_stop texts text rest model p m t x.0.model x.1 x.0.stopped e
more_behind t texts text rest (Err f) model p m e = absurd (not_bad f (at_pause model p) m e)

first_more : (text : List ℕ) → OneMore [] text
first_more text run model p m e = ap (λ (w : Executing). result_of (next w text (λ more. more))) e ∙ result_behind m.files (resumed model p m.printed text)

one_more : (texts : List (List ℕ)) (text : List ℕ) → OneMore texts text
one_more [] text = first_more text
one_more (t ∷ ts) text = more_behind t ts text (one_more ts text)

abbrev runs : Executing → Result Executing MathProgFault
runs run = Ok run

abbrev reads_no : MathProgFault → Result Executing MathProgFault
reads_no f = Err f

same_runs : (a b : Executing) → runs a ≡ runs b → a ≡ b
same_runs a b e = cc

unread_no : (f : MathProgFault) (run : Executing) → reads_no f ≡ runs run → ⊥
unread_no f run e = cc

-- the execution with one more table's text pauses at a table behind which less is left
pub less_left : (text : List ℕ) (data_texts tables : List (List ℕ)) (table : List ℕ) (old new : Pending) → IsPending text data_texts tables old → IsPending text data_texts (tables ++ table ∷ []) new → left_behind new < left_behind old
unfolding executing
less_left text data_texts tables table old new was is = by (loaded_model text data_texts) refl
  where
    by : (l : Result LoadedModel MathProgFault) → loaded_model text data_texts ≡ l → left_behind new < left_behind old
    by (Err fault) l = absurd (unread_no fault (ran (at_pause old.model old.pause) was.made) (sym (ap (executing_model tables) l) ∙ was.is))
    by (Ok model) l =
        let paused_so : with_texts (execution model) tables ≡ ran (at_pause old.model old.pause) was.made = same_runs (with_texts (execution model) tables) (ran (at_pause old.model old.pause) was.made) (sym (ap (executing_model tables) l) ∙ was.is) in
        let more_so : with_texts (execution model) (tables ++ table ∷ []) ≡ ran (at_pause new.model new.pause) is.made = same_runs (with_texts (execution model) (tables ++ table ∷ [])) (ran (at_pause new.model new.pause) is.made) (sym (ap (executing_model (tables ++ table ∷ [])) l) ∙ is.is) in
        fewer_left old.model old.pause table was.made.printed new.model new.pause
        (sym (one_more tables table (execution model) old.model old.pause was.made paused_so) ∙ ap (λ (run : Executing). result_of run) more_so)

zero_less : (n : ℕ) → 0 < suc n
zero_less n = omega arith

both_less : (m n : ℕ) → m < n → suc m < suc n
both_less m n h = omega (arith, h)

-- ---- a run

some_halt : (s : Settings) (text : List ℕ) (data_texts tables : List (List ℕ)) (halt : Halt) → IsHalt s text data_texts tables halt → IsSomeHalt s halt
some_halt s text data_texts tables (halts.End end) h = tt
some_halt s text data_texts tables (halts.Table w) h = record { text = text; data_texts = data_texts; tables = tables; waiting = h }
some_halt s text data_texts tables (halts.Unread u) h = tt

less_at : (s : Settings) (w : Waiting) (some : IsSomeWaiting s w) (table : List ℕ) (halt : Halt) → IsHalt s some.text some.data_texts (some.tables ++ table ∷ []) halt → left_of halt < left_of (halts.Table w)
less_at s w some table (halts.End end) h = zero_less (left_behind w.pending)
less_at s w some table (halts.Table more) h = both_less (left_behind more.pending) (left_behind w.pending) (less_left some.text some.data_texts some.tables table w.pending more.pending some.waiting.pending h.pending)
less_at s w some table (halts.Unread u) h = absurd h

-- its table's file is read
pub next_executed : (inputs : Inputs) (w : Waiting) (table : List ℕ) (made : Run) → IsSomeWaiting inputs.settings w → IsTableExecuted inputs w table made.inputs made.executed → IsNext (halts.Table w) made
next_executed inputs w table made some x =
    let s : Settings = inputs.settings in
    let halt : IsHalt s some.text some.data_texts (some.tables ++ table ∷ []) made.executed.halt = (x.execution some.text some.data_texts some.tables some.waiting.files some.waiting.language some.waiting.made some.waiting.pending).halt in
    record {
      some = subst (λ t. IsSomeHalt t made.executed.halt) (sym x.settings) (some_halt s some.text some.data_texts (some.tables ++ table ∷ []) made.executed.halt halt);
      less = less_at s w some table made.executed.halt halt;
    }

-- it is not read
pub next_unread : (w : Waiting) (made : Run) (halt : Halt) → made.executed.halt ≡ halt → left_of halt ≡ 0 → IsSomeHalt made.inputs.settings halt → IsNext (halts.Table w) made
next_unread w made halt is none some = record {
  some = subst (IsSomeHalt made.inputs.settings) (sym is) some;
  less = subst (λ n. n < left_of (halts.Table w)) (sym (ap left_of is ∙ none)) (zero_less (left_behind w.pending));
}

-- a run halts so
pub halts_so : (words : List (List ℕ)) (told : ToldNames) (start now : Moment) (s : Settings) (texts : List (List ℕ)) (e : Executed) → IsRun words told start now s texts e → IsSomeHalt s e.halt
halts_so words told start now s texts e run = by e.halt run.halt
  where
    by : (halt : Halt) → IsHaltOrUnread told (Rose start.files now.files) s run.text run.data_texts run.tables halt → IsSomeHalt s halt
    by (halts.End end) h = tt
    by (halts.Table w) h = record { text = run.text; data_texts = run.data_texts; tables = run.tables; waiting = h }
    by (halts.Unread u) h = tt

pub next_of : (halt : Halt) (made : Run) → is_waiting halt ≡ true → IsNextOf halt made → IsNext halt made
next_of (halts.End end) made e h = cc
next_of (halts.Table w) made e h = h
next_of (halts.Unread u) made e h = cc
