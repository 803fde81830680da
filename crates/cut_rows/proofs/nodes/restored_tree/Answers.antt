use Rattle.std.proofs.Common.{◌≤◌, List, length, arith}
use Rattle.certificate.specs.declared.tree.TreeNode.{TreeNode as Node}
use Rattle.row_columns.proofs.RemadeTrees.{tree_made}
use Rattle.cut_rows.specs.Restored.{restored_node}
use Rattle.cut_rows.proofs.RestoredCertificates.{same_opened}
use Rattle.cut_rows.proofs.nodes.restored_tree.Goals as goal

pub returns-clause-whole : goal.returns-clause-whole
returns-clause-whole c =
    let nodes : List Node = c.as_slice-nodes.result.now in
    let all : length nodes ≤ c.loop-node.node-index = omega (arith, c.loop-node-test.false) in
    tree_made (restored_node c.args.problem.now) (same_opened c.args.problem.now) c.args.tree.now nodes c.loop-node.node-index c.loop-node.made c.as_slice-nodes.ensures.nodes all c.loop-node.invariant c.requires
