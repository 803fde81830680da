-- No statement is bad.
use Rattle.gmpl_parse.proofs.Judged.{no_bad_statement}
use Rattle.gmpl_parse.proofs.passes.judged.Goals as goal

pub returns-in-None : goal.returns-in-None
returns-in-None c = λ whole is. no_bad_statement whole c.args.found.statements c.args.found.data_at c.in_ok-judgement.judgement is c.in_ok-judgement.ensures c.in-None.is
