use Rattle.std.proofs.Common.{◌∙◌, length, sym, rules}
use Rattle.std.proofs.lemmas.List.{with_items_is, places}
use Rattle.simplex.specs.Ratio.{along}
use Rattle.simplex.proofs.RayNumbers.{fault_from, same_length, denominators_fault, product_fault, scaled_ray}
use Rattle.simplex.proofs.ray.ray.Goals as goal

pub to_be_whole-requires : goal.to_be_whole-requires
to_be_whole-requires c = same_length (length c.args.columns.now) (along c.args.dictionary.now c.args.q c.args.rises) c.deref.result.now (c.deref.ensures.value ∙ c.in_ok-numbers.ensures)

pub returns-in_err-common-clause-err : goal.returns-in_err-common-clause-err
returns-in_err-common-clause-err c =
    fault_from c.from_residual-in_err-common.result c.in_err-common.field-0.0 _ c.from_residual-in_err-common.ensures.1
    (denominators_fault c.args.columns.now (along c.args.dictionary.now c.args.q c.args.rises) c.deref.result.now c.deref-2.result.now c.in_err-common.field-0.0 (c.deref.ensures.value ∙ c.in_ok-numbers.ensures) (c.deref-2.ensures.value ∙ c.in_ok-integers.ensures) c.in_err-common.ensures.err)

pub returns-in_err-scale-clause-err : goal.returns-in_err-scale-clause-err
returns-in_err-scale-clause-err c =
    fault_from c.from_residual-in_err-scale.result c.in_err-scale.field-0.0 _ c.from_residual-in_err-scale.ensures.1
    (product_fault c.args.columns.now (along c.args.dictionary.now c.args.q c.args.rises) c.deref.result.now c.deref-2.result.now c.deref_mut.result.now c.in_ok-common.common c.whole.result c.in_err-scale.field-0.0
    (c.deref.ensures.value ∙ c.in_ok-numbers.ensures) (c.deref-2.ensures.value ∙ c.in_ok-integers.ensures) c.in_ok-common.ensures.ok c.whole.ensures (c.deref_mut.ensures.value ∙ sym c.deref.ensures.value) c.in_err-scale.ensures.err)

pub returns-clause-ok : goal.returns-clause-ok
returns-clause-ok c =
    c.from_vec.ensures
    ∙ rw (with_items_is c.in_ok-numbers.numbers c.scale.new.numbers (search (rules, places)))
    (scaled_ray c.args.columns.now (along c.args.dictionary.now c.args.q c.args.rises) c.deref.result.now c.deref-2.result.now c.deref_mut.result.now c.scale.new.numbers c.in_ok-common.common c.whole.result
    (c.deref.ensures.value ∙ c.in_ok-numbers.ensures) (c.deref-2.ensures.value ∙ c.in_ok-integers.ensures) c.in_ok-common.ensures.ok c.whole.ensures (c.deref_mut.ensures.value ∙ sym c.deref.ensures.value) c.in_ok-scale.ensures.ok)
