use Rattle.std.proofs.Common.{◌∙◌, sym, rules}
use Rattle.simplex.proofs.WeightItems.{no_row_weight}
use Rattle.simplex.proofs.weights.row_weight.Goals as goal

pub returns-then-is_basic : goal.returns-then-is_basic
returns-then-is_basic c = c.zero.ensures ∙ sym (no_row_weight c.args.dictionary.now c.args.r c.args.v c.requires.basic (search rules) (sym c.is_basic.ensures ∙ c.if-is_basic.true))
