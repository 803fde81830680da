use Rattle.decimals.proofs.ExponentLaw.{exponent_law}
use Rattle.decimals.proofs.laws.exponents.Goals as goal

pub returns : goal.returns
returns c = exponent_law
