use Rattle.ranging.proofs.LeafEnds.{leaf_shows_best, leaf_shows_no_highest, leaf_shows_no_lowest}
use Rattle.ranging.proofs.leaves_show_costs.Goals as goal

pub returns : goal.returns
returns c = record { best = leaf_shows_best; no_highest = leaf_shows_no_highest; no_lowest = leaf_shows_no_lowest }
