use Rattle.search_tree.proofs.Covered.{covered}
use Rattle.search_tree.proofs.Steps.{step_kept}
use Rattle.search_tree.proofs.Histories.{replay_kept}
use Rattle.search_tree.proofs.boards.kept_boards.Goals as goal

pub returns : goal.returns
returns c = record { covered = covered; steps = step_kept; replays = replay_kept }
