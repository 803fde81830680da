use Rattle.board_pool.proofs.EventsOnce.{offers_once}
use Rattle.board_pool.proofs.offer.OfferEventSharedBoard.make.Goals as goal

pub returns-in-Ok-clause-one : goal.returns-in-Ok-clause-one
returns-in-Ok-clause-one c = λ spans first has of may. offers_once spans c.args.seat first c.args.machine.now c.offer.new.self c.args.self.point c.in-Ok.best has of c.in-Ok.ensures.ok c.keeps_its_log.ensures
