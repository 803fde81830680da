use Rattle.std.proofs.Common.{◌<◌, ◌*◌, sym, subst}
use Rattle.decimals.proofs.Powers.{times_tens_pos}
use Rattle.decimals.proofs.rounding.rounded.Goals as goal

pub nearest-requires-clause-positive : goal.nearest-requires-clause-positive
nearest-requires-clause-positive c = subst (λ x. 0 < c.args.d * x) (sym c.pow.ensures) (times_tens_pos c.args.d c.unsigned_abs-count.result c.requires.positive)
