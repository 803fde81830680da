use Rattle.std.proofs.Common.{◌≡◌, ◌∙◌, sym, rules}
use Rattle.row_columns.proofs.ScalingLemmas.{product_unfit}
use Rattle.row_columns.proofs.scaling.scaled.Goals as goal

pub returns-in-Err-clause-unfit : goal.returns-in-Err-clause-unfit
returns-in-Err-clause-unfit c =
    let same : c.entry.inside.coefficient ≡ c.entry-item.result.coefficient = search rules in
    product_unfit c.args.by c.args.form.now c.loop-entry.entry-index c.entry-item.result c.entry.inside.coefficient c.in-Err.field-0 c.loop-entry-test.true c.entry-item.is same (sym c.mul.ensures ∙ c.in-Err.is)
