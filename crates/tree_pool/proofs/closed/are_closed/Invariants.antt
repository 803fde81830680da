use Rattle.std.proofs.Common.{◌≡◌, drop}
use Rattle.tree_pool.specs.LogNodes.{nodes_in}
use Rattle.tree_pool.specs.Ledger.{are_closed}
use Rattle.tree_pool.proofs.closed.are_closed.Given as goal

abbrev pub invariant-loop-node : goal.invariant-loop-node
invariant-loop-node l = are_closed (nodes_in l.log (drop l.node-index l.nodes)) ≡ are_closed (nodes_in l.log l.nodes)
