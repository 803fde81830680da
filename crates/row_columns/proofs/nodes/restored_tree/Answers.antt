use Rattle.std.proofs.Common.{◌≤◌, List, length, arith}
use Rattle.certificate.specs.declared.tree.TreeNode.{TreeNode as Node}
use Rattle.row_columns.specs.Restored.{restored_node}
use Rattle.row_columns.proofs.RemadeTrees.{tree_made}
use Rattle.row_columns.proofs.RestoredTree.{of_columns, same_opened}
use Rattle.row_columns.proofs.nodes.restored_tree.Goals as goal

pub restored_node-requires : goal.restored_node-requires
restored_node-requires c = of_columns c.args.tree.now c.as_slice-nodes.result.now c.loop-node.node-index c.node-item.result c.requires.nodes c.as_slice-nodes.ensures.nodes c.loop-node-test.true c.node-item.is

pub returns-clause-whole : goal.returns-clause-whole
returns-clause-whole c =
    let nodes : List Node = c.as_slice-nodes.result.now in
    let all : length nodes ≤ c.loop-node.node-index = omega (arith, c.loop-node-test.false) in
    tree_made (restored_node c.args.problem.now c.args.forms.now) (same_opened c.args.problem.now c.args.forms.now) c.args.tree.now nodes c.loop-node.node-index c.loop-node.made c.as_slice-nodes.ensures.nodes all c.loop-node.invariant c.requires.whole
