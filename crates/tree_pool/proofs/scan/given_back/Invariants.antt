use Rattle.std.proofs.Common.{◌≡◌, map, take}
use Rattle.tree_pool.specs.Ledger.{given_back}
use Rattle.tree_pool.proofs.scan.given_back.Given as goal

abbrev pub invariant-loop-node : goal.invariant-loop-node
invariant-loop-node l = l.back.items ≡ map (given_back l.log) (take l.node-index l.nodes)
