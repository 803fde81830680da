use Rattle.row_columns.proofs.ScalingLemmas.{divisor_some, scale_made, scale_unfit, denominator_unfit}
use Rattle.row_columns.proofs.scaling.scale.Goals as goal

pub div-requires : goal.div-requires
div-requires c = divisor_some c.args.numbers.now c.common_numerator-numerator.result c.whole-2.result c.requires c.common_numerator-numerator.ensures.value c.whole-2.ensures

pub returns-in_err-denominator-clause-err : goal.returns-in_err-denominator-clause-err
returns-in_err-denominator-clause-err c = denominator_unfit c.from_residual.result c.in_err-denominator.field-0.0 c.args.numbers.now c.from_residual.ensures.1 c.in_err-denominator.ensures.err

pub returns-clause-ok : goal.returns-clause-ok
returns-clause-ok c =
    scale_made c.args.numbers.now c.in_ok-denominator.denominator c.common_numerator-numerator.result c.whole.result c.whole-2.result c.div.result
    c.in_ok-denominator.ensures.ok c.common_numerator-numerator.ensures.value c.whole.ensures c.whole-2.ensures c.div.ensures

pub returns-clause-err : goal.returns-clause-err
returns-clause-err c =
    scale_unfit c.args.numbers.now c.in_ok-denominator.denominator c.common_numerator-numerator.result c.whole.result c.whole-2.result c.div.result
    c.in_ok-denominator.ensures.ok c.common_numerator-numerator.ensures.value c.whole.ensures c.whole-2.ensures c.div.ensures
