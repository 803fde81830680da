use Rattle.ranging.proofs.LeafDirections.{optimum_shows_lowest, optimum_shows_highest}
use Rattle.ranging.proofs.optima_show_cost_ends.Goals as goal

pub returns : goal.returns
returns c = record { lowest = optimum_shows_lowest; highest = optimum_shows_highest }
