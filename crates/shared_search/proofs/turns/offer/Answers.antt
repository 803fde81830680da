use Rattle.turn_pool.specs.Passes.{view_of}
use Rattle.shared_search.proofs.Offers.{offer_tells}
use Rattle.shared_search.proofs.turns.offer.Goals as goal

pub returns-in-Some-clause-offered : goal.returns-in-Some-clause-offered
returns-in-Some-clause-offered c = offer_tells c.leases_stay_open.ensures.offered (view_of c.args.pass.now) (view_of c.insist.new.pass) c.in-Some.ensures.made.0 c.args.point c.in-Some.best c.in-Some.ensures.made.1
