use Rattle.ranging.proofs.AuxiliariesHavePoints.{cost_has_point, bound_has_point}
use Rattle.ranging.proofs.auxiliaries_have_points.Goals as goal

pub returns : goal.returns
returns c = record { cost = cost_has_point; bound = bound_has_point }
