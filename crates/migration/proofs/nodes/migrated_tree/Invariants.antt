use Rattle.std.proofs.Common.{◌≡◌, ◌++◌, [], drop, take, reverse}
use Rattle.migration.specs.Nodes.{nodes_behind}
use Rattle.migration.proofs.nodes.migrated_tree.Given as goal

abbrev pub invariant-loop-place : goal.invariant-loop-place
invariant-loop-place l = l.made ++ nodes_behind l.problem (reverse (take l.place l.tree)) (drop l.place l.tree) ≡ nodes_behind l.problem [] l.tree
