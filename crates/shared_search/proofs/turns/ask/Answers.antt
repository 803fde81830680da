use Rattle.turn_pool.specs.Passes.{view_of}
use Rattle.shared_search.proofs.LeavesPut.{told_leaf}
use Rattle.shared_search.proofs.turns.ask.Goals as goal

pub returns-in-Ok-clause-told : goal.returns-in-Ok-clause-told
returns-in-Ok-clause-told c = told_leaf c.leases_stay_open.ensures.given (view_of c.args.pass.now) (view_of c.call.new.pass) c.in-Ok.asked c.in-Ok.ensures.ok
