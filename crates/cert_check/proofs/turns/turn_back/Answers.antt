use Rattle.cert_check.proofs.Turning.{back_over}
use Rattle.cert_check.proofs.turns.turn_back.Goals as goal

pub loop-turn-preserved : goal.loop-turn-preserved
loop-turn-preserved c = back_over c.loop-turn.turns.items c.pop.new.self.items c.in-Some.turn _ c.in-Some.ensures.items c.in-None.ensures c.loop-turn.invariant
