-- What is found is right.
use Rattle.gmpl_meaning.proofs.Keeping.{value_found}
use Rattle.gmpl_meaning.proofs.kept.Kept.find.Goals as goal

pub returns : goal.returns
returns c = λ model all. value_found model c.args.asked.now c.get.result c.args.self.now c.get.ensures all
