use Rattle.std.proofs.Common.{◌^◌, ◌+◌, ◌*◌, arith}
use Rattle.wide.proofs.Quotients.{bit_fits, bit_below, bits_more}
use Rattle.wide.proofs.division.part_by_bits.Goals as goal

pub overflow_mul-quotient : goal.overflow_mul-quotient
overflow_mul-quotient c = omega (arith, bit_fits c.loop-step.quotient c.bit_quotient-bit.result.0 c.loop-step._step c.loop-step.invariant.quotient_small c.bit_quotient-bit.ensures.bit c.loop-step-test.true)

pub overflow_add-quotient : goal.overflow_add-quotient
overflow_add-quotient c = omega (arith, bit_fits c.loop-step.quotient c.bit_quotient-bit.result.0 c.loop-step._step c.loop-step.invariant.quotient_small c.bit_quotient-bit.ensures.bit c.loop-step-test.true)

pub loop-step-preserved : goal.loop-step-preserved
loop-step-preserved c = record {
  whole = bits_more c.loop-step.bits c.loop-step.quotient c.args.divisor c.loop-step.left (c.args.part + 2 ^ 128 * c.args.rest) c.loop-step._step c.bit_quotient-bit.result.0 c.bit_quotient-bit.result.1 c.loop-step.invariant.whole c.bit_quotient-bit.ensures.whole;
  quotient_small = bit_below c.loop-step.quotient c.bit_quotient-bit.result.0 c.loop-step._step c.loop-step.invariant.quotient_small c.bit_quotient-bit.ensures.bit;
  left_small = c.bit_quotient-bit.ensures.small;
}
