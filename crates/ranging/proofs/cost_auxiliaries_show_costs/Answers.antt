use Rattle.ranging.proofs.CostPoints.{point_shows_best, ray_shows_no_lowest, ray_shows_no_highest}
use Rattle.ranging.proofs.cost_auxiliaries_show_costs.Goals as goal

pub returns : goal.returns
returns c = record { best = point_shows_best; no_lowest = ray_shows_no_lowest; no_highest = ray_shows_no_highest }
