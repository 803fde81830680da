use Rattle.basis.proofs.Operations.{node_operation}
use Rattle.basis.proofs.numbers.operations_of_nodes.Goals as goal

pub returns : goal.returns
returns c = λ p ds sides a op b over h. node_operation p ds sides a op b over h
