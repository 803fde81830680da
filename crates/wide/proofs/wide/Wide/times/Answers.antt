use Rattle.std.proofs.Common.{arith}
use Rattle.wide.proofs.Products.{whole_times}
use Rattle.wide.proofs.wide.Wide.times.Goals as goal

pub returns : goal.returns
returns c = omega (arith, whole_times _ _ _ _ c.args.b c.open-low.ensures)
