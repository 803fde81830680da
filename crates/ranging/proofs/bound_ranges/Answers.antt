use Rattle.ranging.proofs.BoundRanges.{between_bound_ends}
use Rattle.ranging.proofs.bound_ranges.Goals as goal

pub returns : goal.returns
returns c = between_bound_ends
