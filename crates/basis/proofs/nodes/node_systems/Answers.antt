use Rattle.basis.proofs.NodeSystems.{is_system}
use Rattle.basis.proofs.nodes.node_systems.Goals as goal

pub returns : goal.returns
returns c = λ p ds sides h. is_system p ds sides h
