-- A member that is evaluated anew, the parts of ranges and comparisons, and iterations.
use Rattle.std.proofs.Common.{◌<◌, ◌∙◌, Ok, arith, subst, sym}
use Rattle.gmpl_value.specs.Outcome.{Gives}
use Rattle.gmpl_expr.proofs.Demands.{member_none, member_some}
use Rattle.gmpl_expr.specs.At as at
use Rattle.gmpl_expr.specs.Shared.{entered}
use Rattle.gmpl_expr.proofs.InModels.{first_entry, first_text, iterated_at}
use Rattle.gmpl_expr.proofs.Membership.{compared_in, compared_not_in}
use Rattle.gmpl_expr.proofs.Ranges.{range_in_place}
use Rattle.gmpl_expr.proofs.Rolled.{compared_at, range_at}
use Rattle.gmpl_expr.proofs.Steps.{behind_three, component_turn, components_left, components_unrolled, entries_left, entries_unrolled, entry_turn, number_turn, numbers_left, numbers_unrolled, one_fault, one_more, relation_meets, symbol_turn, symbols_left, symbols_unrolled}
use Rattle.gmpl_operations.specs.declared.value.Value.TheVariants.{Scalar}
use Rattle.gmpl_meaning.specs.Members.{member}
use Rattle.gmpl_meaning.specs.Restrictions as spec
use Rattle.gmpl_expr.proofs.+evaluation.Goals as goal

pub members::anew-returns-then-height-eq0-clause-value : goal.members::anew-returns-then-height-eq0-clause-value
members::anew-returns-then-height-eq0-clause-value t c = member_none c.args.model.now c.args.height c.args.place c.args.asked c.args.subscripts.now c.if-height-eq0.true

pub members::anew-returns-clause-value : goal.members::anew-returns-clause-value
members::anew-returns-clause-value t c =
    let positive : 0 < c.args.height = omega (arith, c.if-height-eq0.false) in
    subst (Gives c.declared.result) (sym (member_some c.args.model.now c.args.height c.args.place c.args.asked c.args.subscripts.now positive)) c.declared.ensures.value

pub evaluate::eval-returns-in-Range-clause-value : goal.evaluate::eval-returns-in-Range-clause-value
evaluate::eval-returns-in-Range-clause-value t c =
    range_at c.args.model.now c.args.height c.args.whole.now c.in-Range.first c.in-Range.last c.in-Range.step c.get-in-Range.result.now c.get-in-Range-2.result.now c.args.bindings.now c.range.result
    c.in-Range.is c.get-in-Range.ensures c.get-in-Range-2.ensures c.range.ensures.value

pub evaluate::eval-returns-in-Compared-clause-value : goal.evaluate::eval-returns-in-Compared-clause-value
evaluate::eval-returns-in-Compared-clause-value t c =
    compared_at c.args.model.now c.args.height c.args.whole.now c.in-Compared.left c.in-Compared.right c.in-Compared.relation c.get-in-Compared.result.now c.get-in-Compared-2.result.now c.args.bindings.now c.compared.result
    c.in-Compared.is c.get-in-Compared.ensures c.get-in-Compared-2.ensures c.compared.ensures.value

-- ---- sets of ranges

pub sets::shared_range-returns-clause-value : goal.sets::shared_range-returns-clause-value
sets::shared_range-returns-clause-value t c =
    c.kept_range_of.ensures.value _ _ _ c.number-from.ensures.value c.number-to.ensures.value c.step_of-by.ensures.value

pub sets::shared_set-returns-in-Range-clause-value : goal.sets::shared_set-returns-in-Range-clause-value
sets::shared_set-returns-in-Range-clause-value t c =
    range_in_place (λ set. set.value) c.shared_range.result c.args.model.now c.args.height c.args.bindings.now c.args.whole.now c.in-Range.first c.in-Range.last c.in-Range.step c.get.result.now c.get-in-Range.result.now
    c.in-Range.is c.get.ensures c.get-in-Range.ensures c.shared_range.ensures.value

-- ---- parts that are handed as they were evaluated

pub values::range-returns-clause-value : goal.values::range-returns-clause-value
values::range-returns-clause-value t c = c.range_of.ensures _ _ _ c.number-from.ensures.value c.number-to.ensures.value c.step_of-by.ensures.value

pub values::power-returns-clause-value : goal.values::power-returns-clause-value
values::power-returns-clause-value t c = c.power_of_both.ensures _ _ c.number-base.ensures.value c.number-exponent.ensures.value

pub values::is_element-returns-clause-value : goal.values::is_element-returns-clause-value
values::is_element-returns-clause-value t c = c.membership_of.ensures _ _ c.element-element.ensures.value c.shared_set-set.ensures.value

pub values::compared_values-returns-clause-value : goal.values::compared_values-returns-clause-value
values::compared_values-returns-clause-value t c = c.relation_of.ensures _ _ (c.left_of-left.ensures _ c.eval-value.ensures.value) c.eval-right.ensures.value

pub values::substring-returns-in-len1-up-clause-value : goal.values::substring-returns-in-len1-up-clause-value
values::substring-returns-in-len1-up-clause-value t c =
    first_text c.args.model.now c.args.height c.args.arguments.now c.text-item.result c.args.bindings.now c.sliced_of.result c.in-len1-up.len_at_least c.text-item.is
    (c.sliced_of.ensures _ _ (c.symbol_of-text.ensures _ c.eval.ensures.value) c.numbers-numbers.ensures.value)

pub restrictions::restricted-returns-clause-value : goal.restrictions::restricted-returns-clause-value
restrictions::restricted-returns-clause-value t c =
    subst (Gives c.symbol_tested.result)
    (behind_three (λ _. Ok (Scalar c.args.symbol)) (spec.where_true (spec.all_allow c.args.attributes.now c.args.symbol))
    (spec.relations_hold c.args.model.now.statements (member c.args.model.now c.args.height) c.args.bindings.now c.args.symbolic c.args.attributes.now c.args.symbol)
    (spec.memberships_hold c.args.model.now.statements (member c.args.model.now c.args.height) c.args.bindings.now c.args.attributes.now c.args.symbol))
    (c.symbol_tested.ensures _ c.all_hold-tested.ensures.value)

pub variables::bounded_by-returns-in-Restriction-clause-value : goal.variables::bounded_by-returns-in-Restriction-clause-value
variables::bounded_by-returns-in-Restriction-clause-value t c =
    subst (λ x. Gives c.bounds_with.result (spec.bounded_by c.args.model.now.statements (member c.args.model.now c.args.height) c.args.bindings.now c.args.so_far x)) (sym c.in-Restriction.is)
    (c.bounds_with.ensures _ c.number-bound.ensures.value)

pub restrictions::inclusion_holds-returns-in-Restriction-clause-value : goal.restrictions::inclusion_holds-returns-in-Restriction-clause-value
restrictions::inclusion_holds-returns-in-Restriction-clause-value t c =
    subst (λ x. Gives c.lies_within.result (spec.inclusion_holds c.args.model.now.statements (member c.args.model.now c.args.height) c.args.bindings.now x c.args.set.now)) (sym c.in-Restriction.is)
    (c.lies_within.ensures _ c.shared_set-outer.ensures.value)

pub restrictions::relation_holds-returns-else-is_in-clause-value : goal.restrictions::relation_holds-returns-else-is_in-clause-value
restrictions::relation_holds-returns-else-is_in-clause-value t c =
    relation_meets c.args.model.now.statements (member c.args.model.now c.args.height) c.args.bindings.now c.args.symbolic c.args.attribute.now c.in-Restriction.relation c.in-Restriction.whole c.args.symbol.now c.meets.result
    c.in-Restriction.is (sym c.is_in.ensures ∙ c.if-is_in.false) (c.meets.ensures _ c.eval-value.ensures.value)

-- ---- loops over such parts

pub values::symbols-loop-one-preserved : goal.values::symbols-loop-one-preserved
values::symbols-loop-one-preserved t c = (
  one_more (symbols_left c.args.model.now c.args.height c.args.bindings.now) (symbol_turn c.args.model.now c.args.height c.args.bindings.now) c.args.all.now c.loop-one.one-index c.one-item.result _ c.loop-one.found c.loop-one.invariant.0 c.loop-one-test.true c.one-item.is
      (symbols_unrolled c.args.model.now c.args.height c.args.bindings.now c.one-item.result _ c.loop-one.found)
      _ (c.in_ok-push_symbol.ensures _ c.eval-value.ensures.value),
  c.eval-value.ensures.right,
)

pub values::symbols-returns-in_err-push_symbol-clause-value : goal.values::symbols-returns-in_err-push_symbol-clause-value
values::symbols-returns-in_err-push_symbol-clause-value t c =
    one_fault (symbols_left c.args.model.now c.args.height c.args.bindings.now) (symbol_turn c.args.model.now c.args.height c.args.bindings.now) c.args.all.now c.loop-one.one-index c.one-item.result _ c.loop-one.found c.loop-one.invariant.0 c.loop-one-test.true c.one-item.is
    (symbols_unrolled c.args.model.now c.args.height c.args.bindings.now c.one-item.result _ c.loop-one.found)
    c.from_residual-in_err-push_symbol.result c.in_err-push_symbol.field-0.0 c.from_residual-in_err-push_symbol.ensures.1 (c.in_err-push_symbol.ensures _ c.eval-value.ensures.value)

pub values::numbers-loop-one-preserved : goal.values::numbers-loop-one-preserved
values::numbers-loop-one-preserved t c = (
  one_more (numbers_left c.args.model.now c.args.height c.args.bindings.now) (number_turn c.args.model.now c.args.height c.args.bindings.now) c.args.all.now c.loop-one.one-index c.one-item.result _ c.loop-one.found c.loop-one.invariant.0 c.loop-one-test.true c.one-item.is
      (numbers_unrolled c.args.model.now c.args.height c.args.bindings.now c.one-item.result _ c.loop-one.found)
      _ (c.in_ok-push_number.ensures _ c.eval-value.ensures.value),
  c.eval-value.ensures.right,
)

pub values::numbers-returns-in_err-push_number-clause-value : goal.values::numbers-returns-in_err-push_number-clause-value
values::numbers-returns-in_err-push_number-clause-value t c =
    one_fault (numbers_left c.args.model.now c.args.height c.args.bindings.now) (number_turn c.args.model.now c.args.height c.args.bindings.now) c.args.all.now c.loop-one.one-index c.one-item.result _ c.loop-one.found c.loop-one.invariant.0 c.loop-one-test.true c.one-item.is
    (numbers_unrolled c.args.model.now c.args.height c.args.bindings.now c.one-item.result _ c.loop-one.found)
    c.from_residual.result c.in_err-push_number.field-0.0 c.from_residual.ensures.1 (c.in_err-push_number.ensures _ c.eval-value.ensures.value)

pub indexing::component_values-loop-one-preserved : goal.indexing::component_values-loop-one-preserved
indexing::component_values-loop-one-preserved t c = (
  one_more (components_left c.args.model.now c.args.height c.args.bindings.now) (component_turn c.args.model.now c.args.height c.args.bindings.now) c.args.all.now c.loop-one.one-index c.one-item.result _ c.loop-one.found c.loop-one.invariant.0 c.loop-one-test.true c.one-item.is
      (components_unrolled c.args.model.now c.args.height c.args.bindings.now c.one-item.result _ c.loop-one.found)
      _ (c.in_ok-push_component.ensures _ c.component_value-component.ensures.value),
  c.component_value-component.ensures.right,
)

pub indexing::component_values-returns-in_err-push_component-clause-value : goal.indexing::component_values-returns-in_err-push_component-clause-value
indexing::component_values-returns-in_err-push_component-clause-value t c =
    one_fault (components_left c.args.model.now c.args.height c.args.bindings.now) (component_turn c.args.model.now c.args.height c.args.bindings.now) c.args.all.now c.loop-one.one-index c.one-item.result _ c.loop-one.found c.loop-one.invariant.0 c.loop-one-test.true c.one-item.is
    (components_unrolled c.args.model.now c.args.height c.args.bindings.now c.one-item.result _ c.loop-one.found)
    c.from_residual.result c.in_err-push_component.field-0.0 c.from_residual.ensures.1 (c.in_err-push_component.ensures _ c.component_value-component.ensures.value)

pub indexing::within_entries-loop-entry-preserved : goal.indexing::within_entries-loop-entry-preserved
indexing::within_entries-loop-entry-preserved t c = (
  one_more (entries_left c.args.model.now c.args.height) (entry_turn c.args.model.now c.args.height) c.args.entries.now c.loop-entry.entry-index c.entry-item.result _ (c.loop-entry.bindings, c.loop-entry.rest) c.loop-entry.invariant.0 c.loop-entry-test.true c.entry-item.is
      (entries_unrolled c.args.model.now c.args.height c.entry-item.result _ (c.loop-entry.bindings, c.loop-entry.rest))
      _ (c.in_ok-enter.ensures _ c.entry_value-value.ensures.value),
  c.entry_value-value.ensures.right,
)

pub indexing::within_entries-returns-in_err-enter-clause-value : goal.indexing::within_entries-returns-in_err-enter-clause-value
indexing::within_entries-returns-in_err-enter-clause-value t c =
    one_fault (entries_left c.args.model.now c.args.height) (entry_turn c.args.model.now c.args.height) c.args.entries.now c.loop-entry.entry-index c.entry-item.result _ (c.loop-entry.bindings, c.loop-entry.rest) c.loop-entry.invariant.0 c.loop-entry-test.true c.entry-item.is
    (entries_unrolled c.args.model.now c.args.height c.entry-item.result _ (c.loop-entry.bindings, c.loop-entry.rest))
    c.from_residual-in_err-enter.result c.in_err-enter.field-0.0 c.from_residual-in_err-enter.ensures.1 (c.in_err-enter.ensures _ c.entry_value-value.ensures.value)

-- ---- elements of sets

pub values::within_set-returns-clause-value : goal.values::within_set-returns-clause-value
values::within_set-returns-clause-value t c =
    subst (Gives c.truth_value.result) (sym (compared_in (at.expr c.args.model.now c.args.height c.args.left.now) (at.expr c.args.model.now c.args.height c.args.right.now) c.args.bindings.now)) (c.truth_value.ensures _ c.is_element-found.ensures.value)

pub values::outside_set-returns-clause-value : goal.values::outside_set-returns-clause-value
values::outside_set-returns-clause-value t c =
    subst (Gives c.negated_value.result) (sym (compared_not_in (at.expr c.args.model.now c.args.height c.args.left.now) (at.expr c.args.model.now c.args.height c.args.right.now) c.args.bindings.now)) (c.negated_value.ensures _ c.is_element-found.ensures.value)

-- ---- iterations

pub iterations::over_entries-returns-in_ok-value-in-len1-up-clause-value : goal.iterations::over_entries-returns-in_ok-value-in-len1-up-clause-value
iterations::over_entries-returns-in_ok-value-in-len1-up-clause-value t c =
    first_entry c.args.model.now c.args.height c.args.each.now.iteration (at.optional c.args.model.now c.args.height c.args.each.now.condition.now) (at.expr c.args.model.now c.args.height c.args.each.now.body.now)
    c.args.entries.now c.entry-item.result (entered c.in_ok-value-in-len1-up.value) c.args.bindings.now c.args.total.now c.over_tuples.new.total c.over_tuples.result
    c.in-len1-up.len_at_least c.entry-item.is c.in_ok-value-in-len1-up.ensures.value c.over_tuples.ensures.value

pub iterations::iterated-returns-clause-value : goal.iterations::iterated-returns-clause-value
iterations::iterated-returns-clause-value t c =
    iterated_at c.args.model.now c.args.height c.args.iteration c.args.indexing.now (at.expr c.args.model.now c.args.height c.args.body.now) c.args.bindings.now c.as_slice-entries.result.now c.finished.result
    c.as_slice-entries.ensures (c.finished.ensures _ c.over_entries-done.ensures.value)
