use Rattle.std.proofs.Common.{◌≡◌, ◌++◌, ◌∷◌, [], length, reverse}
use Rattle.tree_pool.specs.LogNodes.{node_at}
use Rattle.tree_pool.specs.Standing.{in_preorder}
use Rattle.tree_pool.proofs.walk.in_preorder.Given as goal

abbrev pub invariant-loop-count : goal.invariant-loop-count
invariant-loop-count l = l.all.items ++ in_preorder (node_at l.log) l.nodes l.count (reverse l.left.items) ≡ in_preorder (node_at l.log) l.nodes (length l.nodes) (0 ∷ [])

abbrev pub decreases-loop-count : goal.decreases-loop-count
decreases-loop-count l = l.count
