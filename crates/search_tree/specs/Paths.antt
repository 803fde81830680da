-- Paths to a node, as trees whose last place is the node.
use Rattle.std.specs.Prelude.{List, length}
use Rattle.verdicts.specs.Certificate.{Side, TreeNode}
use Rattle.certificate.specs.Ways.{way}

-- the splits on the way to the last place of a tree, the latest first
abbrev pub last_sides : List TreeNode → List Side
last_sides nodes = way nodes (length nodes)
