-- What a `for` does, by its heads and its body.
use Rattle.std.proofs.Common.{◌≡◌, ◌∙◌, List, Result, ap, sym, subst}
use Rattle.gmpl_resolved.specs.declared.expression.Indexing.{Indexing}
use Rattle.gmpl_resolved.specs.declared.statement.Action.{Action}
use Rattle.gmpl_resolved.specs.declared.statement.Action.TheVariants as act
use Rattle.gmpl_resolved.specs.declared.statement.Action.TheVariants.{rolls-For}
use Rattle.gmpl_resolved.specs.declared.statement.Action.TheOpen.{Action-F}
use Rattle.gmpl_resolved.specs.declared.statement.Action.TheFolds.{fold-roll-Action}
use Rattle.gmpl_value.specs.declared.eval_fault.EvalFault.{EvalFault}
use Rattle.gmpl_data.specs.declared.tables.LoadedModel.{LoadedModel}
use Rattle.gmpl_meaning.specs.Parts.{Bindings}
use Rattle.gmpl_generate.specs.declared.fault.Stop.{Stop}
use Rattle.gmpl_generate.specs.declared.scopes.Scopes.{Scopes}
use Rattle.gmpl_generate.specs.Running.{Follows, Made}
use Rattle.gmpl_generate.specs.Scopes.{alone, at_heads}
use Rattle.gmpl_generate.specs.Actions.{Doing, action, action_step, actions_each}

looping : (model : LoadedModel) (heads : List Indexing) (body : List Action) (b : Bindings) (made : Made) → action model (act.For heads body) b made ≡ actions_each model body (at_heads model heads (alone b)) made
looping model heads body b made =
    ap (λ w. action model w b made) (sym (rolls-For heads body)) ∙ ap (λ (d : Doing). d b made) (fold-roll-Action Doing (action_step model) (Action-F.For heads body))

pub for_at : (model : LoadedModel) (whole : Action) (heads hs : List Indexing) (body all : List Action) (b : Bindings) (s : Scopes) (made new : Made) (result : Result (Unit {0}) (Stop EvalFault))
    → whole ≡ act.For heads body → hs ≡ heads → all ≡ body → s ≡ at_heads model hs (alone b) → Follows (actions_each model all s made) result new → Follows (action model whole b made) result new
for_at model whole heads hs body all b s made new result is hs_is all_is s_is given =
    subst (λ w. Follows (action model w b made) result new) (sym is)
    (subst (λ r. Follows r result new) (sym (looping model heads body b made))
    (subst (λ l. Follows (actions_each model body (at_heads model l (alone b)) made) result new) hs_is
    (subst (λ l. Follows (actions_each model l (at_heads model hs (alone b)) made) result new) all_is
    (subst (λ x. Follows (actions_each model all x made) result new) s_is given))))
