use Rattle.std.proofs.Common.{arith}
use Rattle.command_line.proofs.Limits.{no_limit}
use Rattle.command_line.proofs.read.limit_in_digits.Goals as goal

pub returns-in-Err : goal.returns-in-Err
returns-in-Err c = no_limit c.args.least c.args.greatest c.args.word.now c.parse.result c.in-Err.field-0 (omega arith) c.requires c.parse.ensures.value.0 c.in-Err.is
