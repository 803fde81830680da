use Rattle.basis.proofs.Leaves.{optimal_proves, infeasible_proves, unbounded_proves}
use Rattle.basis.proofs.nodes.one_leaf_proves.Goals as goal

pub returns : goal.returns
returns c = record { optimal = optimal_proves; infeasible = infeasible_proves; unbounded = unbounded_proves }
