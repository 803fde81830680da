use Rattle.std.proofs.Common.{◌≡◌, ◌∙◌, true}
use Rattle.verdicts.specs.WeightedSums.{scaled}
use Rattle.instance.specs.WellFormed.{are_entries}
use Rattle.certificate.specs.Written.{count_max}
use Rattle.row_columns.proofs.ScalingLemmas.{numbers_some, by_is, form_unfit, if_some, scaled_in_order, scale_unfit_form}
use Rattle.row_columns.proofs.scaling.scaled_form.Goals as goal

pub scale-requires : goal.scale-requires
scale-requires c = numbers_some count_max c.args.form.now c.deref.result.now (c.deref.ensures.value ∙ c.in_ok-numbers.ensures) c.requires.some c.requires.entries

pub returns-in-Ok-clause-unfit : goal.returns-in-Ok-clause-unfit
returns-in-Ok-clause-unfit c = form_unfit c.scaled.result c.args.form.now c.in-Ok.by (by_is c.args.form.now c.deref.result.now c.in-Ok.by (c.deref.ensures.value ∙ c.in_ok-numbers.ensures) c.in-Ok.ensures.ok) c.scaled.ensures.unfit

pub returns-in-Ok-clause-entries : goal.returns-in-Ok-clause-entries
returns-in-Ok-clause-entries c =
    let some = numbers_some count_max c.args.form.now c.deref.result.now (c.deref.ensures.value ∙ c.in_ok-numbers.ensures) c.requires.some c.requires.entries in
    if_some c.scaled.result (λ es. es.items ≡ scaled c.in-Ok.by c.args.form.now) (λ es. are_entries count_max es.items ≡ true)
    (λ es h. scaled_in_order count_max c.args.form.now es.items c.deref.result.now c.in-Ok.by some c.in-Ok.ensures.ok c.requires.entries h) c.scaled.ensures.made

pub returns-clause-unfit : goal.returns-clause-unfit
returns-clause-unfit c = scale_unfit_form c.args.form.now c.deref.result.now c.in-Err.field-0 (c.deref.ensures.value ∙ c.in_ok-numbers.ensures) c.in-Err.ensures.err
