use Rattle.fraction.proofs.Shares.{fault_kept, number_read, one_more_denominator, denominator_fault}
use Rattle.fraction.proofs.denominators.common_denominator.Goals as goal

pub returns-in_err-common-clause-err : goal.returns-in_err-common-clause-err
returns-in_err-common-clause-err c =
    fault_kept c.from_residual.result c.in_err-common.field-0.0 _ c.from_residual.ensures.1
    (denominator_fault c.args.numbers.now c.loop-number.number-index c.number-item.result c.loop-number.common c.denominator.result c.in_err-common.field-0.0
    (number_read c.args.numbers.now c.loop-number.number-index c.number-item.result c.loop-number-test.true c.number-item.is) c.loop-number.invariant.done c.denominator.ensures.same c.in_err-common.ensures.err)

pub loop-number-preserved : goal.loop-number-preserved
loop-number-preserved c = record {
  done = one_more_denominator c.args.numbers.now c.loop-number.number-index c.number-item.result c.loop-number.common c.denominator.result c.in_ok-common.common
      (number_read c.args.numbers.now c.loop-number.number-index c.number-item.result c.loop-number-test.true c.number-item.is) c.loop-number.invariant.done c.denominator.ensures.same c.in_ok-common.ensures.ok;
  some = c.in_ok-common.ensures.some;
  fits = c.in_ok-common.ensures.fits;
}
