use Rattle.pool_rows.proofs.OneMore.{settles_one}
use Rattle.pool_rows.proofs.events.SettleEventTaskBoard.make.Goals as goal

pub returns-in-Ok-clause-one : goal.returns-in-Ok-clause-one
returns-in-Ok-clause-one c = λ spans first has replay may. settles_one spans c.args.seat first c.args.machine.now c.settle.new.self c.args.self.lease c.args.self.amount has replay may c.in-Ok.ensures.ok
