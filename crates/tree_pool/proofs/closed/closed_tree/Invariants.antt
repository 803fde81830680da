use Rattle.std.proofs.Common.{◌≡◌, ◌++◌, drop}
use Rattle.tree_pool.specs.LogNodes.{nodes_in}
use Rattle.tree_pool.specs.Ledger.{closed_slots}
use Rattle.tree_pool.proofs.closed.closed_tree.Given as goal

abbrev pub invariant-loop-node : goal.invariant-loop-node
invariant-loop-node l = l.tree ++ closed_slots (nodes_in l.log (drop l.node-index l.nodes)) ≡ closed_slots (nodes_in l.log l.nodes)
