use Rattle.ranging.proofs.KeptPoints.{direction_shows_lowest, direction_shows_highest}
use Rattle.ranging.proofs.directions_show_ends.Goals as goal

pub returns : goal.returns
returns c = record { lowest = direction_shows_lowest; highest = direction_shows_highest }
