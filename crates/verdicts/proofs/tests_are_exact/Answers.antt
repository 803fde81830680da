use Rattle.verdicts.proofs.Points.{meets_true, ray_true}
use Rattle.verdicts.proofs.Converse.{true_meets, true_ray}
use Rattle.verdicts.proofs.tests_are_exact.Goals as goal

pub returns : goal.returns
returns c = record { point = λ p x. (meets_true p x, true_meets p x); ray = λ p r. (ray_true p r, true_ray p r) }
