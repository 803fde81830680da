use Rattle.board_pool.proofs.EventsOnce.{asks_once}
use Rattle.board_pool.proofs.ask.AskEventSharedBoard.make.Goals as goal

pub returns-in-Ok-clause-one : goal.returns-in-Ok-clause-one
returns-in-Ok-clause-one c = λ spans first has of may. asks_once spans c.args.seat first c.args.machine.now c.lease.new.self c.in-Ok.asked has of c.in-Ok.ensures.ok c.keeps_its_log.ensures
