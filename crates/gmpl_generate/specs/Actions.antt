-- What a statement does that is executed and declares nothing (GNU MathProg Language Reference, sections on the check, the display,
-- the printf, the for and the table statement), where the indices in scope have these values.
use Rattle.std.specs.Prelude.{List, [], ◌∷◌, map, Option}
use Rattle.gmpl_resolved.specs.declared.expression.Expr.{Expr}
use Rattle.gmpl_resolved.specs.declared.expression.Indexing.{Indexing}
use Rattle.gmpl_resolved.specs.declared.statement.Action.{Action}
use Rattle.gmpl_resolved.specs.declared.statement.Action.TheOpen.{Action-F}
use Rattle.gmpl_resolved.specs.declared.statement.Action.TheFolds.{fold-Action}
use Rattle.gmpl_data.specs.declared.tables.LoadedModel.{LoadedModel}
use Rattle.gmpl_meaning.specs.Parts.{Bindings}
use Rattle.gmpl_generate.specs.declared.fault.ModelFaultKind.{ModelFaultKind}
use Rattle.gmpl_generate.specs.declared.scopes.Scopes.{Scopes}
use Rattle.gmpl_generate.specs.Running.{Made, Running, ◌>>=◌, pure, beside, printing}
use Rattle.gmpl_generate.specs.Scopes.{scopes_of, at_heads, alone, over}
use Rattle.gmpl_generate.specs.Checks.{check_each}
use Rattle.gmpl_generate.specs.Printing.{print_each}
use Rattle.gmpl_generate.specs.Display.{show_each}
use Rattle.gmpl_generate.specs.OutputTables.{write_table}

abbrev pub Doing : Type 0
Doing = Bindings → Running Made ModelFaultKind (Unit {0})

-- one after another, up to the first fault
abbrev pub all_done : List Doing → Doing
all_done [] b = pure tt
all_done (p ∷ ps) b = p b >>= (λ _. all_done ps b)

-- at each element the whole body
abbrev pub each_done : List Doing → Scopes → Running Made ModelFaultKind (Unit {0})
each_done body s = over (all_done body) s.all s.fault

module _ (model : LoadedModel) where
  abbrev pub check : Option Indexing → Expr → Doing
  check domain x b = beside (check_each model x (scopes_of model domain b).all (scopes_of model domain b).fault)

  abbrev pub display : Option Indexing → List Expr → Doing
  display domain items b = printing (show_each model items (scopes_of model domain b))

  abbrev pub printf : Option Indexing → List Expr → Doing
  printf domain parts b = printing (print_each model parts (scopes_of model domain b))

  abbrev pub looped : List Indexing → List Doing → Doing
  looped heads body b = each_done body (at_heads model heads (alone b))

  abbrev pub action_step : Action-F Doing → Doing
  action_step (Action-F.Check domain x) = check domain x
  action_step (Action-F.Display domain items) = display domain items
  action_step (Action-F.Printf domain parts) = printf domain parts
  action_step (Action-F.TableOutput table) = write_table model table
  action_step (Action-F.For heads body) = looped heads body

  abbrev pub action : Action → Doing
  action = fold-Action Doing action_step

  abbrev pub actions : List Action → Doing
  actions xs = all_done (map action xs)

  abbrev pub actions_each : List Action → Scopes → Running Made ModelFaultKind (Unit {0})
  actions_each xs s = each_done (map action xs) s
