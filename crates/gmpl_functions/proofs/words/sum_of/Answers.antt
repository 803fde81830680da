use Rattle.gmpl_functions.proofs.WholeAnswers.{sum_is}
use Rattle.gmpl_functions.proofs.words.sum_of.Goals as goal

pub returns : goal.returns
returns c = sum_is c.whole_numbers.ensures.sum c.args.a c.args.b c.whole.result c.requires.first c.requires.second c.whole.ensures
