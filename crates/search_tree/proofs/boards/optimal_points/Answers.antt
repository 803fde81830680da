use Rattle.search_tree.proofs.Passing.{passing_optimum}
use Rattle.search_tree.proofs.Pinned.{found_pinned}
use Rattle.search_tree.proofs.Treated.{found_optimum}
use Rattle.search_tree.proofs.boards.optimal_points.Goals as goal

pub returns : goal.returns
returns c = record { tested = passing_optimum; found = found_optimum; pinned = found_pinned }
