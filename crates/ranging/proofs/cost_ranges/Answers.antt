use Rattle.ranging.proofs.CostRanges.{between_cost_ends}
use Rattle.ranging.proofs.cost_ranges.Goals as goal

pub returns : goal.returns
returns c = between_cost_ends
