use Rattle.milp.specs.Form.{number_at}
use Rattle.basis.specs.Bland.{Improves}
use Rattle.dictionary.specs.Table.{dictionary_of}
use Rattle.simplex.proofs.Choices.{one_more}
use Rattle.simplex.proofs.choose.first_improving.Goals as goal

pub loop-q-preserved : goal.loop-q-preserved
loop-q-preserved c = one_more (Improves c.args.system.now c.args.dictionary.now.places (number_at c.args.values.now) (dictionary_of c.args.dictionary.now)) c.loop-q.q c.loop-q.invariant (c.improves.ensures.no c.if-improves.false)
