use Rattle.std.proofs.Common.{string_bytes}
use Rattle.gmpl_generate.proofs.TablesLeft.{has_fewer_left}
use Rattle.gmpl_generate.proofs.problem.resume.Goals as goal

pub returns-clause-left : goal.returns-clause-left
returns-clause-left c = has_fewer_left c.args.model c.args.pause (string_bytes c.args.printed) c.args.text.now c.behind_table.result c.behind_table.ensures
