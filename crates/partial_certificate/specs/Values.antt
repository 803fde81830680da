-- What the enum of the code stands for.
use Rattle.certificate.specs.Values.{node_of}
use Rattle.partial_certificate.specs.Partial.{PartialNode as NodeOf}
use Rattle.partial_certificate.specs.Partial as of
use Rattle.partial_certificate.specs.declared.tree.PartialNode.{PartialNode}
use Rattle.partial_certificate.specs.declared.tree.PartialNode.TheVariants.{Done, Todo}

abbrev pub partial_of : PartialNode → NodeOf
partial_of (Done node) = of.Done (node_of node.now)
partial_of Todo = of.Todo
