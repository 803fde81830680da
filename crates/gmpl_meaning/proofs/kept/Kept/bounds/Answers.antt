-- What is found is right.
use Rattle.gmpl_meaning.proofs.Keeping.{bounds_found}
use Rattle.gmpl_meaning.proofs.kept.Kept.bounds.Goals as goal

pub returns : goal.returns
returns c = λ model all. bounds_found model c.args.variable.now c.get_bounds.result c.args.self.now c.get_bounds.ensures all
