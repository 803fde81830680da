use Rattle.basis.proofs.Blocked.{infeasible_shows, refutes_leaf}
use Rattle.basis.proofs.nodes.infeasible_nodes.Goals as goal

pub returns : goal.returns
returns c = record { weights = infeasible_shows; leaf = refutes_leaf }
