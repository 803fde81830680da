use Rattle.std.proofs.Common.{arith}
use Rattle.fraction.proofs.ReadLemmas.{grown_past}
use Rattle.fraction.proofs.read.grown.Goals as goal

pub returns-then-zeros-gt37 : goal.returns-then-zeros-gt37
returns-then-zeros-gt37 c = grown_past c.args.number c.args.zeros c.args.digit (omega arith) (omega arith)
