use Rattle.search_tree.proofs.AnyWhole.{no_split}
use Rattle.search_tree.proofs.boards.none_far_out.Goals as goal

pub returns : goal.returns
returns c = no_split
