use Rattle.exact_ranges.specs.BoundParts.{used_of}
use Rattle.exact_ranges.proofs.bounds.between.Goals as goal

pub returns : goal.returns
returns c = c.bound_ranges.ensures c.args.problem.now (used_of c.args.used.now) c.args.low c.args.high (record { continuous = c.requires.continuous; has_least = c.requires.low; has_greatest = c.requires.high })
