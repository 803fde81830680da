use Rattle.std.proofs.Common.{◌≡◌, ◌<◌, ◌≤◌, List, length, get_or, arith}
use Rattle.verdicts.specs.Certificate.{TreeNode}
use Rattle.certificate.specs.Values.{node_of}
use Rattle.certificate.proofs.Laws.{stands_for, same_length}
use Rattle.migration.proofs.Behind.{tree_behind, tree_again, one_behind, none_behind, node_of_one}
use Rattle.migration.proofs.nodes.migrated_tree.Goals as goal

pub add_migrated-requires-clause-one : goal.add_migrated-requires-clause-one
add_migrated-requires-clause-one c =
    let tree : List TreeNode = c.args.tree.now in
    let node : TreeNode = node_of c.index-nodes-place.result in
    let here : c.loop-place.place < length tree = omega (arith, c.loop-place-test.true, same_length node_of c.as_slice-nodes.result.now tree c.as_slice-nodes.ensures.nodes) in
    let is : node ≡ get_or tree c.loop-place.place node = stands_for node_of c.as_slice-nodes.result.now tree c.loop-place.place c.index-nodes-place.result c.as_slice-nodes.ensures.nodes c.index-nodes-place.is in
    node_of_one tree c.loop-place.place node c.requires.one here is

pub loop-place-preserved : goal.loop-place-preserved
loop-place-preserved c =
    let tree : List TreeNode = c.args.tree.now in
    let node : TreeNode = node_of c.index-nodes-place.result in
    let here : c.loop-place.place < length tree = omega (arith, c.loop-place-test.true, same_length node_of c.as_slice-nodes.result.now tree c.as_slice-nodes.ensures.nodes) in
    let is : node ≡ get_or tree c.loop-place.place node = stands_for node_of c.as_slice-nodes.result.now tree c.loop-place.place c.index-nodes-place.result c.as_slice-nodes.ensures.nodes c.index-nodes-place.is in
    one_behind c.args.problem.now tree c.loop-place.place node c.loop-place.made c.add_migrated.new.made _ here is c.loop-place.invariant c.in_ok-add_migrated.ensures

pub returns-clause-exact : goal.returns-clause-exact
returns-clause-exact c =
    let tree : List TreeNode = c.args.tree.now in
    let all : length tree ≤ c.loop-place.place = omega (arith, c.loop-place-test.false, same_length node_of c.as_slice-nodes.result.now tree c.as_slice-nodes.ensures.nodes) in
    tree_behind c.args.problem.now tree c.loop-place.made c.requires.whole (none_behind c.args.problem.now tree c.loop-place.place c.loop-place.made _ all c.loop-place.invariant)

pub returns-clause-whole : goal.returns-clause-whole
returns-clause-whole c =
    let tree : List TreeNode = c.args.tree.now in
    let all : length tree ≤ c.loop-place.place = omega (arith, c.loop-place-test.false, same_length node_of c.as_slice-nodes.result.now tree c.as_slice-nodes.ensures.nodes) in
    tree_again c.args.problem.now tree c.loop-place.made c.requires.whole (none_behind c.args.problem.now tree c.loop-place.place c.loop-place.made _ all c.loop-place.invariant)
