use Rattle.milp.specs.Form.{number_at}
use Rattle.basis.specs.Bland.{IsOutside}
use Rattle.simplex.proofs.Choices.{one_more}
use Rattle.simplex.proofs.choose.first_outside.Goals as goal

pub loop-v-preserved : goal.loop-v-preserved
loop-v-preserved c = one_more (IsOutside c.args.system.now c.args.dictionary.now.places (number_at c.args.values.now)) c.loop-v.v c.loop-v.invariant (c.outside.ensures.none c.in-None.is)
