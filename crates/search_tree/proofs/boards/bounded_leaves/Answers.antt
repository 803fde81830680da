use Rattle.search_tree.proofs.Passing.{bound_too}
use Rattle.search_tree.proofs.boards.bounded_leaves.Goals as goal

pub returns : goal.returns
returns c = bound_too
