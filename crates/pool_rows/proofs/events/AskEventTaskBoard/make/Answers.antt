use Rattle.pool_rows.proofs.OneMore.{asks_one}
use Rattle.pool_rows.proofs.events.AskEventTaskBoard.make.Goals as goal

pub returns-in-Ok-clause-one : goal.returns-in-Ok-clause-one
returns-in-Ok-clause-one c = λ spans first has replay may. asks_one spans c.args.seat first c.args.machine.now c.ask.new.self c.in-Ok.lease has replay c.in-Ok.ensures.ok
