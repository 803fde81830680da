use Rattle.std.proofs.Common.{arith}
use Rattle.std.proofs.lemmas.Int.{ints}
use Rattle.decimals.proofs.Sizes.{abs_numerator, abs_denominator}
use Rattle.decimals.proofs.texts.size.Goals as goal

pub overflow_cast-result : goal.overflow_cast-result
overflow_cast-result c =
    let is = abs_numerator c.args.value c.abs.result c.abs.ensures in
    let part = c.parts-numerator.ensures.numerator in
    (omega (arith, ints), omega (arith, ints))

pub returns-clause-numerator : goal.returns-clause-numerator
returns-clause-numerator c =
    let is = abs_numerator c.args.value c.abs.result c.abs.ensures in
    let part = c.parts-numerator.ensures.numerator in
    omega (arith, ints)

pub returns-clause-denominator : goal.returns-clause-denominator
returns-clause-denominator c =
    let is = abs_denominator c.args.value c.abs.result c.abs.ensures in
    let part = c.parts-numerator.ensures.denominator in
    omega (arith, ints)
