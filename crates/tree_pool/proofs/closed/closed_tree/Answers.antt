use Rattle.tree_pool.specs.declared.refs.NodeRef.TheVariants.{Again}
use Rattle.tree_pool.proofs.ClosedNodes.{closed_more}
use Rattle.tree_pool.proofs.closed.closed_tree.Goals as goal

pub loop-node-preserved : goal.loop-node-preserved
loop-node-preserved c = closed_more c.args.log.now c.args.nodes.now c.loop-node.node-index Again c.loop-node.tree c.add_closed.new.tree _ c.loop-node-test.true c.in_ok-add_closed.ensures c.loop-node.invariant
