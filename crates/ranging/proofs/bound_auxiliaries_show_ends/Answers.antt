use Rattle.ranging.proofs.BoundPoints.{least_shows, greatest_shows}
use Rattle.ranging.proofs.BoundRays.{ray_shows_no_least, ray_shows_no_greatest}
use Rattle.ranging.proofs.bound_auxiliaries_show_ends.Goals as goal

pub returns : goal.returns
returns c = record { least = least_shows; greatest = greatest_shows; no_least = ray_shows_no_least; no_greatest = ray_shows_no_greatest }
