use Rattle.std.proofs.Common.{◌≡◌, ◌++◌, drop}
use Rattle.tree_pool.specs.LogNodes.{nodes_in}
use Rattle.tree_pool.specs.Shown.{shown_slots}
use Rattle.tree_pool.proofs.shown.shown_tree.Given as goal

abbrev pub invariant-loop-node : goal.invariant-loop-node
invariant-loop-node l = l.tree ++ shown_slots (nodes_in l.log (drop l.node-index l.nodes)) ≡ shown_slots (nodes_in l.log l.nodes)
