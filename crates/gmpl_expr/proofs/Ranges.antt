-- Ranges whose sets are shared.
use Rattle.std.proofs.Common.{◌≡◌, ℕ, Option, List, Result, sym, subst}
use Rattle.gmpl_resolved.specs.declared.expression.Expr.{Expr}
use Rattle.gmpl_resolved.specs.declared.expression.Expr.TheVariants as e
use Rattle.gmpl_value.specs.declared.symbol.Symbol.{Symbol}
use Rattle.gmpl_value.specs.Sets.{Elements as Set}
use Rattle.gmpl_value.specs.declared.eval_fault.EvalFault.{EvalFault}
use Rattle.gmpl_value.specs.Outcome.{GivesAs, then_do}
use Rattle.gmpl_operations.specs.Values.{set_in}
use Rattle.gmpl_data.specs.declared.tables.LoadedModel.{LoadedModel}
use Rattle.gmpl_meaning.specs.Expressions.{range}
use Rattle.gmpl_meaning.specs.Walks.{entry_set}
use Rattle.gmpl_expr.specs.At as at
use Rattle.gmpl_expr.proofs.Rolled.{meaning_range}

module _ {A : Type 0} (view : A → Set) (result : Result A EvalFault) (model : LoadedModel) (height : ℕ) (b : List Symbol) where
  pub range_in_place : (whole first last : Expr) (step : Option Expr) (l r : Expr) → whole ≡ e.Range first last step → l ≡ first → r ≡ last → GivesAs view result (then_do set_in (range (at.expr model height l) (at.expr model height r) (at.optional model height step) b)) → GivesAs view result (entry_set (at.expr model height whole) b)
  range_in_place whole first last step l r is il ir given =
      subst (λ w. GivesAs view result (entry_set (at.expr model height w) b)) (sym is)
      (subst (λ o. GivesAs view result (then_do set_in o)) (sym (meaning_range model height first last step b))
      (subst (λ x. GivesAs view result (then_do set_in (range (at.expr model height x) (at.expr model height last) (at.optional model height step) b))) il
      (subst (λ y. GivesAs view result (then_do set_in (range (at.expr model height l) (at.expr model height y) (at.optional model height step) b))) ir given)))
