-- What is found is right.
use Rattle.gmpl_meaning.proofs.Keeping.{alone_found}
use Rattle.gmpl_meaning.proofs.kept.Kept.find_alone.Goals as goal

pub returns : goal.returns
returns c = λ model all. alone_found model c.args.place c.get_alone.result c.args.self.now c.get_alone.ensures all
