use Rattle.std.proofs.Common.{◌∙◌, sym}
use Rattle.simplex.proofs.WeightItems.{no_gain}
use Rattle.simplex.proofs.weights.gain.Goals as goal

pub returns-then-is_basic : goal.returns-then-is_basic
returns-then-is_basic c = c.zero.ensures ∙ sym (no_gain c.args.dictionary.now c.args.v (sym c.is_basic.ensures ∙ c.if-is_basic.true))
