-- What an execution comes to, where its model is lent out of a box.
use Rattle.std.proofs.Common.{◌≡◌, List, ℕ, Result, Ok, Err, sym, subst}
use Rattle.std.specs.Prelude.{IfOk}
use Rattle.gmpl_value.specs.declared.eval_fault.EvalFault.{EvalFault}
use Rattle.gmpl_data.specs.declared.tables.LoadedModel.{LoadedModel}
use Rattle.gmpl_generate.specs.declared.fault.Halt.{Halt}
use Rattle.gmpl_generate.specs.declared.fault.ModelFault.{ModelFault}
use Rattle.gmpl_generate.specs.declared.problem.Executed.{Executed}
use Rattle.gmpl_generate.specs.declared.turns.Pause.{Pause}
use Rattle.gmpl_generate.specs.declared.turns.Stopped.{Stopped}
use Rattle.gmpl_generate.specs.InputTables.{with_table}
use Rattle.gmpl_generate.specs.Problem.{IsExecuted, all_executed, execution, from_pause, of_model, printed_so_far, resumed, resumed_by}
use Rattle.gmpl_generate.specs.Running.{Made, Ran, Runs, nothing_made}

-- what is said of all runs that stop so
abbrev pub OfRuns : {E : Type 0} → LoadedModel → Result Stopped (Halt EvalFault) → Made → Result Executed E → Type 0
OfRuns model stopped made r = IfOk r (λ e. (ran : Ran Made ModelFault Stopped) → Runs ran stopped made → IsExecuted (of_model model ran) e)

pub is_executed : {E : Type 0} (model lent : LoadedModel) (start made : Made) (stopped : Result Stopped (Halt EvalFault)) (r : Result Executed E)
    → lent ≡ model → start ≡ nothing_made → Runs (all_executed lent start) stopped made → OfRuns model stopped made r → IfOk r (IsExecuted (execution model))
unfolding execution
is_executed model lent start made stopped (Ok e) same nothing runs all =
    all (all_executed model nothing_made) (subst (λ m. Runs (all_executed model m) stopped made) nothing (subst (λ (w : LoadedModel). Runs (all_executed w start) stopped made) same runs))
is_executed model lent start made stopped (Err error) same nothing runs all = tt

pub is_resumed : {E : Type 0} (model more lent : LoadedModel) (p : Pause) (printed text : List ℕ) (start made : Made) (stopped : Result Stopped (Halt EvalFault)) (r : Result Executed E)
    → with_table model p text ≡ Ok more → lent ≡ more → start ≡ printed_so_far printed → Runs (from_pause p lent start) stopped made → OfRuns more stopped made r → IfOk r (IsExecuted (resumed model p printed text))
unfolding resumed
is_resumed model more lent p printed text start made stopped (Ok e) taken same nothing runs all =
    subst (λ (w : Result LoadedModel ModelFault). IsExecuted (resumed_by p printed w) e) (sym taken)
    (all (from_pause p more (printed_so_far printed)) (subst (λ m. Runs (from_pause p more m) stopped made) nothing (subst (λ (w : LoadedModel). Runs (from_pause p w start) stopped made) same runs)))
is_resumed model more lent p printed text start made stopped (Err error) taken same nothing runs all = tt
