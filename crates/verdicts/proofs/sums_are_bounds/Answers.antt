use Rattle.verdicts.proofs.Sums.{sums_bound}
use Rattle.verdicts.proofs.sums_are_bounds.Goals as goal

pub returns : goal.returns
returns c = sums_bound
