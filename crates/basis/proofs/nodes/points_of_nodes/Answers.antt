use Rattle.basis.proofs.NodePoints.{node_point}
use Rattle.basis.proofs.nodes.points_of_nodes.Goals as goal

pub returns : goal.returns
returns c = λ p ds sides x h k l. node_point p ds sides h x k l
