use Rattle.search_tree.proofs.Treated.{treated_stays, treated_worthwhile}
use Rattle.search_tree.proofs.boards.treated_nodes.Goals as goal

pub returns : goal.returns
returns c = record { leaf = treated_stays; worthwhile = treated_worthwhile }
