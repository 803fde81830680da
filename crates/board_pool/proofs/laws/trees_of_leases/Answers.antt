use Rattle.board_pool.proofs.TreeLaws.{leaf_may_be_put, tree_may_be_put}
use Rattle.board_pool.proofs.laws.trees_of_leases.Goals as goal

pub returns-clause-leaf : goal.returns-clause-leaf
returns-clause-leaf c = leaf_may_be_put

pub returns-clause-tree : goal.returns-clause-tree
returns-clause-tree c = tree_may_be_put
