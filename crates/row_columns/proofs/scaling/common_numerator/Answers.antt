use Rattle.fraction.specs.Fits.{part_max}
use Rattle.row_columns.specs.RowForms.{common_numerator}
use Rattle.row_columns.proofs.ScalingLemmas.{one_more_numerator, more_fits}
use Rattle.row_columns.proofs.scaling.common_numerator.Goals as goal

pub loop-number-preserved : goal.loop-number-preserved
loop-number-preserved c = record {
  done = one_more_numerator c.args.numbers.now c.loop-number.number-index c.number-item.result c.loop-number.common c.numerator.result c.gcd-common.result (common_numerator 0 c.args.numbers.now) c.loop-number-test.true c.number-item.is
      c.numerator.ensures.size c.gcd-common.ensures c.loop-number.invariant.done;
  fits = more_fits c.loop-number.common c.numerator.result c.gcd-common.result part_max c.gcd-common.ensures c.loop-number.invariant.fits c.numerator.ensures.fits;
}
