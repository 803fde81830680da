use Rattle.search_tree.proofs.Finished.{finished_accepted, finished_proves}
use Rattle.search_tree.proofs.boards.finished_boards.Goals as goal

pub returns : goal.returns
returns c = record { accepted = finished_accepted; proves = finished_proves }
