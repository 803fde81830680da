use Rattle.decimals.proofs.NearestLaw.{nearest_law}
use Rattle.decimals.proofs.laws.roundings.Goals as goal

pub returns : goal.returns
returns c = nearest_law
