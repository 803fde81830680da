use Rattle.std.proofs.Common.{◌≡◌, ◌++◌, drop}
use Rattle.row_columns.proofs.RemadeTrees.{remade_nodes}
use Rattle.cut_rows.specs.Restored.{restored_node}
use Rattle.cut_rows.proofs.nodes.restored_tree.Given as goal

abbrev pub invariant-loop-node : goal.invariant-loop-node
invariant-loop-node l = l.made ++ remade_nodes (restored_node l.problem) (drop l.node-index l.nodes) ≡ remade_nodes (restored_node l.problem) l.nodes
