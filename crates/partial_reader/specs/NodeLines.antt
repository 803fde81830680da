-- The line of a node, as the code has it.
use Rattle.certificate.specs.Values.{node_of}
use Rattle.partial_certificate.specs.Partial as of
use Rattle.partial_reader.specs.declared.reading.NodeLine.{NodeLine}
use Rattle.partial_reader.specs.declared.reading.NodeLine.TheVariants.{Done, Todo}

abbrev pub line_node : NodeLine → of.PartialNode
line_node (Done node) = of.Done (node_of node)
line_node Todo = of.Todo
