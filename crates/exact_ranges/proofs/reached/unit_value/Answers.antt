use Rattle.std.proofs.Common.{◌∙◌}
use Rattle.exact_ranges.proofs.ReachedForms.{unit_value}
use Rattle.exact_ranges.proofs.reached.unit_value.Goals as goal

pub returns : goal.returns
returns c = c.number.ensures ∙ unit_value c.args.x.now c.args.column
