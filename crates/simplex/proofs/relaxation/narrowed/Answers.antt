use Rattle.std.proofs.Common.{◌∙◌, ap}
use Rattle.rational.specs.Rational.{whole}
use Rattle.simplex.proofs.Narrowing.{narrowed_high}
use Rattle.simplex.proofs.relaxation.narrowed.Goals as goal

pub returns-in-High-clause-ok : goal.returns-in-High-clause-ok
returns-in-High-clause-ok c = narrowed_high c.args.split c.args.side c.to_frac-at.result c.args.bounds c.at_least.result c.in-High.is (c.to_frac-at.ensures ∙ ap whole c.at.ensures) c.at_least.ensures.ok
