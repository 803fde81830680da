use Rattle.gmpl_functions.proofs.WholeAnswers.{product_is}
use Rattle.gmpl_functions.proofs.words.product_of.Goals as goal

pub returns : goal.returns
returns c = product_is c.whole_numbers.ensures.product c.args.a c.args.b c.whole.result c.requires.first c.requires.second c.whole.ensures
