use Rattle.std.proofs.Common.{◌≡◌, ◌≤◌, arith, unsigned_abs}
use Rattle.std.proofs.lemmas.Int.{ints}
use Rattle.gmpl_functions.proofs.Factors.{fewer_factors}
use Rattle.gmpl_functions.proofs.powers.factors_needed.Goals as goal

pub returns : goal.returns
returns c =
    let whole : c.args.x.denominator ≡ 1 = omega (arith, ints) in
    let small : unsigned_abs c.args.x.numerator ≤ 1 = omega (arith, ints) in
    fewer_factors c.whole_numbers.ensures.product c.args.x c.args.count whole small c.if-count-lt3.false
