use Rattle.gmpl_functions.proofs.Remainders.{left_is}
use Rattle.gmpl_functions.proofs.words.left_of.Goals as goal

pub returns : goal.returns
returns c =
    left_is c.whole_numbers.ensures.sum c.whole_numbers.ensures.product c.args.a c.args.b c.whole.result c.requires.some c.requires.first c.requires.second c.whole.ensures
