use Rattle.std.proofs.Common.{arith}
use Rattle.std.proofs.lemmas.Int.{ints}
use Rattle.fraction.proofs.FracLemmas.{neg_from}
use Rattle.fraction.proofs.frac.Frac.neg.Goals as goal

pub returns : goal.returns
returns c = neg_from c.args.self _ _ _ c.new.ensures (omega (arith, ints)) c.open-numerator.ensures.denominator
