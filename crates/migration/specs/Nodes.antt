-- Nodes of version 1 as nodes of version 2, one after another.
use Rattle.std.specs.Prelude.{List, [], ◌∷◌}
use Rattle.milp.specs.Problem.{Problem}
use Rattle.verdicts.specs.Certificate.{TreeNode}
use Rattle.verdicts.specs.Preorder.{way_to}
use Rattle.verdicts.specs.Migrated.{migrated_node}

-- the nodes that come behind others in preorder, of which the latest stands first, each under the splits on its way
abbrev pub nodes_behind : Problem → List TreeNode → List TreeNode → List TreeNode
nodes_behind p before [] = []
nodes_behind p before (node ∷ nodes) = migrated_node p (way_to before 0) node ∷ nodes_behind p (node ∷ before) nodes
