-- What a check comes to (GNU MathProg Language Reference, section on the check statement): its condition has to be true at each
-- element of its domain.
use Rattle.std.specs.Prelude.{Bool, true, false, Option, Result, Ok, Err, List, [], ◌∷◌}
use Rattle.gmpl_resolved.specs.declared.expression.Expr.{Expr}
use Rattle.gmpl_value.specs.declared.eval_fault.EvalFault.{EvalFault}
use Rattle.gmpl_value.specs.Outcome.{Outcome, then_do}
use Rattle.gmpl_operations.specs.Values.{truth_in}
use Rattle.gmpl_data.specs.declared.tables.LoadedModel.{LoadedModel}
use Rattle.gmpl_meaning.specs.Members.{evaluated}
use Rattle.gmpl_meaning.specs.Parts.{Bindings}
use Rattle.gmpl_generate.specs.declared.fault.ModelFaultKind.{ModelFaultKind}
use Rattle.gmpl_generate.specs.declared.fault.ModelFaultKind.TheVariants.{CheckFailed, Evaluation}
use Rattle.gmpl_generate.specs.Running.{then_on}
use Rattle.gmpl_generate.specs.Scopes.{ended}

abbrev pub check_by : Outcome Bool → Result (Unit {0}) ModelFaultKind
check_by (Ok true) = Ok tt
check_by (Ok false) = Err CheckFailed
check_by (Err fault) = Err (Evaluation fault)

module _ (model : LoadedModel) where
  abbrev pub truth_of : Bindings → Expr → Outcome Bool
  truth_of b x = then_do truth_in (evaluated model x b)

  abbrev pub check_at : Expr → Bindings → Result (Unit {0}) ModelFaultKind
  check_at x b = check_by (truth_of b x)

  -- at each element in order, up to the first at which it is false; behind them the domain's fault, where there is one
  abbrev pub check_each : Expr → List Bindings → Option EvalFault → Result (Unit {0}) ModelFaultKind
  check_each x [] fault = ended fault
  check_each x (b ∷ bs) fault = then_on (λ _. check_each x bs fault) (check_at x b)
