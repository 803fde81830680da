use Rattle.cert_check.proofs.PartLaws.{ray_shown}
use Rattle.cert_check.proofs.points.is_improving_ray.Goals as goal

pub returns-clause-improving : goal.returns-clause-improving
returns-clause-improving c = ray_shown c.args.problem.now c.args.ray.now c.is_improving.result c.is_improving.ensures (c.tests_are_exact.ensures.ray c.args.problem.now c.args.ray.now)
