use Rattle.std.proofs.Common.{◌≡◌, ◌≤◌, ◌+◌, drop}
use Rattle.tree_pool.specs.Ledger.{kinds_in, lease_count}
use Rattle.tree_pool.proofs.scan.leased_count.Given as goal

abbrev pub invariant-loop-node : goal.invariant-loop-node
invariant-loop-node l = record {
  small : l.count ≤ l.node-index;
  whole : l.count + lease_count (kinds_in l.log (drop l.node-index l.nodes)) ≡ lease_count (kinds_in l.log l.nodes);
}
