use Rattle.made_problem.proofs.Forms.{draw_more}
use Rattle.made_problem.proofs.draws.every_fourth.Goals as goal

pub loop-draw-preserved : goal.loop-draw-preserved
loop-draw-preserved c = draw_more _ _ _ _ _ _ _ _ c.loop-draw-test.true c.loop-draw.invariant c.in_ok-push.ensures.items c.drawn.ensures c.fourth_state-state.ensures
