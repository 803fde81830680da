use Rattle.std.proofs.Common.{refl}
use Rattle.turn_pool.specs.Passes.{view_of}
use Rattle.shared_search.proofs.turns.insist.Goals as goal

pub loop-init : goal.loop-init
loop-init g c = record { event = refl; pool = refl; view = ((view_of c.args.pass.now).tries, refl) }
