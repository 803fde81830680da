use Rattle.gmpl_functions.proofs.WholeAnswers.{difference_is}
use Rattle.gmpl_functions.proofs.words.difference_of.Goals as goal

pub returns : goal.returns
returns c = difference_is c.whole_numbers.ensures.sum c.args.a c.args.b c.whole.result c.requires.first c.requires.second c.whole.ensures
