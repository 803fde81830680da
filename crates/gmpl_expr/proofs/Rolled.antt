-- The meaning of ranges and comparisons, part by part.
use Rattle.std.proofs.Common.{None, Some, ◌≡◌, ◌∙◌, ℕ, Option, List, Result, ap, sym, subst}
use Rattle.gmpl_syntax.specs.declared.expression.Relation.{Relation}
use Rattle.gmpl_resolved.specs.declared.expression.Component.TheOpen.{Expr-F}
use Rattle.gmpl_resolved.specs.declared.expression.Component.TheFolds.{fold-roll-Expr}
use Rattle.gmpl_resolved.specs.declared.expression.Expr.{Expr}
use Rattle.gmpl_resolved.specs.declared.expression.Expr.TheVariants as e
use Rattle.gmpl_resolved.specs.declared.expression.Expr.TheVariants.{rolls-Compared, rolls-Range}
use Rattle.gmpl_value.specs.declared.symbol.Symbol.{Symbol}
use Rattle.gmpl_value.specs.declared.eval_fault.EvalFault.{EvalFault}
use Rattle.gmpl_value.specs.Outcome.{Gives}
use Rattle.gmpl_operations.specs.declared.value.Value.{Value}
use Rattle.gmpl_data.specs.declared.tables.LoadedModel.{LoadedModel}
use Rattle.gmpl_meaning.specs.Parts.{Meant, MeantComponent, MeantEntry, MeantIndexing, MeantLink}
use Rattle.gmpl_meaning.specs.Expressions.{compared, range, component_step, expr_step, entry_step, indexing_step, link_step}
use Rattle.gmpl_meaning.specs.Members.{member}
use Rattle.gmpl_expr.specs.At as at

module _ (model : LoadedModel) (height : ℕ) where
  pub meaning_compared : (relation : Relation) (left right : Expr) (b : List Symbol) → (at.expr model height (e.Compared relation left right)).value b ≡ compared relation (at.expr model height left) (at.expr model height right) b
  meaning_compared relation left right b =
      ap (λ w. (at.expr model height w).value b) (sym (rolls-Compared relation left right)) ∙
      ap (λ (m : Meant). m.value b) (fold-roll-Expr MeantComponent Meant MeantEntry MeantIndexing MeantLink (component_step model.statements (member model height)) (expr_step model.statements (member model height)) (entry_step model.statements (member model height)) (indexing_step model.statements (member model height)) (link_step model.statements (member model height)) (Expr-F.Compared relation left right))

  pub meaning_range : (first last : Expr) (step : Option Expr) (b : List Symbol) → (at.expr model height (e.Range first last step)).value b ≡ range (at.expr model height first) (at.expr model height last) (at.optional model height step) b
  meaning_range first last None b =
      ap (λ w. (at.expr model height w).value b) (sym (rolls-Range first last None)) ∙
      ap (λ (m : Meant). m.value b) (fold-roll-Expr MeantComponent Meant MeantEntry MeantIndexing MeantLink (component_step model.statements (member model height)) (expr_step model.statements (member model height)) (entry_step model.statements (member model height)) (indexing_step model.statements (member model height)) (link_step model.statements (member model height)) (Expr-F.Range first last None))
  meaning_range first last (Some x) b =
      ap (λ w. (at.expr model height w).value b) (sym (rolls-Range first last (Some x))) ∙
      ap (λ (m : Meant). m.value b) (fold-roll-Expr MeantComponent Meant MeantEntry MeantIndexing MeantLink (component_step model.statements (member model height)) (expr_step model.statements (member model height)) (entry_step model.statements (member model height)) (indexing_step model.statements (member model height)) (link_step model.statements (member model height)) (Expr-F.Range first last (Some x)))

  pub compared_at : (whole left right : Expr) (relation : Relation) (l r : Expr) (b : List Symbol) (result : Result Value EvalFault) → whole ≡ e.Compared relation left right → l ≡ left → r ≡ right → Gives result (compared relation (at.expr model height l) (at.expr model height r) b) → Gives result ((at.expr model height whole).value b)
  compared_at whole left right relation l r b result is il ir given =
      subst (λ w. Gives result ((at.expr model height w).value b)) (sym is)
      (subst (Gives result) (sym (meaning_compared relation left right b))
      (subst (λ x. Gives result (compared relation (at.expr model height x) (at.expr model height right) b)) il
      (subst (λ y. Gives result (compared relation (at.expr model height l) (at.expr model height y) b)) ir given)))

  pub range_at : (whole first last : Expr) (step : Option Expr) (l r : Expr) (b : List Symbol) (result : Result Value EvalFault) → whole ≡ e.Range first last step → l ≡ first → r ≡ last → Gives result (range (at.expr model height l) (at.expr model height r) (at.optional model height step) b) → Gives result ((at.expr model height whole).value b)
  range_at whole first last step l r b result is il ir given =
      subst (λ w. Gives result ((at.expr model height w).value b)) (sym is)
      (subst (Gives result) (sym (meaning_range first last step b))
      (subst (λ x. Gives result (range (at.expr model height x) (at.expr model height last) (at.optional model height step) b)) il
      (subst (λ y. Gives result (range (at.expr model height l) (at.expr model height y) (at.optional model height step) b)) ir given)))
