use Rattle.basis.proofs.Ends.{optimal_point, optimal_weights_show}
use Rattle.basis.proofs.Leaves.{optimal_is_best, optimal_passes}
use Rattle.basis.proofs.Optimal.{shows_leaf}
use Rattle.basis.proofs.nodes.optimal_nodes.Goals as goal

pub returns : goal.returns
returns c = record { point = optimal_point; weights = optimal_weights_show; leaf = shows_leaf; passes = optimal_passes; best = optimal_is_best }
