use Rattle.std.proofs.Common.{◌≡◌, arith, to_z, of_z}
use Rattle.std.specs.Int.{w128}
use Rattle.std.proofs.lemmas.Int.{ints}
use Rattle.rational.specs.Rational.{whole}
use Rattle.rational.proofs.Laws.{same_parts}
use Rattle.gmpl_functions.proofs.words.word.Goals as goal

pub returns-then-unsigned_abs-le-GREATEST_WORD : goal.returns-then-unsigned_abs-le-GREATEST_WORD
returns-then-unsigned_abs-le-GREATEST_WORD c =
    let numerator : c.args.number.numerator ≡ to_z w128 (of_z w128 c.parts-numerator.result.0) = omega (arith, ints) in
    let denominator : c.args.number.denominator ≡ 1 = omega (arith, ints) in
    (same_parts c.args.number (whole _) numerator denominator, omega (arith, ints))
