use Rattle.std.proofs.Common.{◌≡◌, ◌++◌, drop}
use Rattle.row_columns.specs.Restored.{restored_node}
use Rattle.row_columns.proofs.RemadeTrees.{remade_nodes}
use Rattle.row_columns.proofs.nodes.restored_tree.Given as goal

abbrev pub invariant-loop-node : goal.invariant-loop-node
invariant-loop-node l = l.made ++ remade_nodes (restored_node l.problem l.forms) (drop l.node-index l.nodes) ≡ remade_nodes (restored_node l.problem l.forms) l.nodes
