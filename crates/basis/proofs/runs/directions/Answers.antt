use Rattle.basis.proofs.Rays.{direction_solves, direction_value}
use Rattle.basis.proofs.runs.directions.Goals as goal

pub returns : goal.returns
returns c = record { solves = direction_solves; objective = direction_value }
