-- The elements that a statement goes over, each as the values of the indices in scope there (GNU MathProg Language Reference,
-- section on the for statement).
use Rattle.std.specs.Prelude.{Ok, Err, List, [], ◌∷◌, ◌++◌, Option, Some, None, Result}
use Rattle.gmpl_resolved.specs.declared.expression.Indexing.{Indexing}
use Rattle.gmpl_value.specs.declared.eval_fault.EvalFault.{EvalFault}
use Rattle.gmpl_data.specs.declared.tables.LoadedModel.{LoadedModel}
use Rattle.gmpl_meaning.specs.declared.walk.Element.{Element}
use Rattle.gmpl_meaning.specs.Members.{elements_of}
use Rattle.gmpl_meaning.specs.Parts.{Bindings}
use Rattle.gmpl_generate.specs.declared.fault.ModelFaultKind.{ModelFaultKind}
use Rattle.gmpl_generate.specs.declared.fault.ModelFaultKind.TheVariants.{Evaluation}
use Rattle.gmpl_generate.specs.declared.scopes.Scopes.{Scopes}
use Rattle.gmpl_generate.specs.Running.{Running, ◌>>=◌, beside}

abbrev pub scopes : List Bindings → Option EvalFault → Scopes
scopes all fault = record { all = all; fault = fault }

-- the indices of each element stand behind those in scope
abbrev pub with_elements : List Bindings → Bindings → List Element → List Bindings
with_elements found b [] = found
with_elements found b (e ∷ es) = with_elements (found ++ (b ++ e.indices) ∷ []) b es

-- ---- what is done at each element; behind the last of them stands the domain's fault

abbrev pub ended : Option EvalFault → Result (Unit {0}) ModelFaultKind
ended None = Ok tt
ended (Some fault) = Err (Evaluation fault)

abbrev pub behind : {S : Type 0} → Option EvalFault → Running S ModelFaultKind (Unit {0})
behind fault = beside (ended fault)

abbrev pub over : {S : Type 0} → (Bindings → Running S ModelFaultKind (Unit {0})) → List Bindings → Option EvalFault → Running S ModelFaultKind (Unit {0})
over done [] fault = behind fault
over done (b ∷ bs) fault = done b >>= (λ _. over done bs fault)

-- ---- the heads of a `for`

-- what goes on behind the elements so far, or ends there
abbrev pub unless_fault : List Bindings → Option EvalFault → (List Bindings → Scopes) → Scopes
unless_fault found None go = go found
unless_fault found (Some fault) go = scopes found (Some fault)

-- before the first head
abbrev pub alone : Bindings → Scopes
alone b = scopes (b ∷ []) None

module _ (model : LoadedModel) where
  -- the elements of a domain
  abbrev pub scopes_of : Option Indexing → Bindings → Scopes
  scopes_of domain b = scopes (with_elements [] b (elements_of model domain b).elements) (elements_of model domain b).fault

  -- each element with those of one more head, up to the first fault
  abbrev pub at_head : Indexing → List Bindings → List Bindings → Option EvalFault → Scopes
  at_head head found [] fault = scopes found fault
  at_head head found (b ∷ bs) fault =
      unless_fault (with_elements found b (elements_of model (Some head) b).elements) (elements_of model (Some head) b).fault (λ more. at_head head more bs fault)

  -- the outer first
  abbrev pub at_heads : List Indexing → Scopes → Scopes
  at_heads [] s = s
  at_heads (head ∷ heads) s = at_heads heads (at_head head [] s.all s.fault)
