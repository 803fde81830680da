use Rattle.basis.proofs.Ends.{unbounded_point, unbounded_ray}
use Rattle.basis.proofs.nodes.unbounded_nodes.Goals as goal

pub returns : goal.returns
returns c = record { point = unbounded_point; ray = unbounded_ray }
