use Rattle.milp.specs.Form.{number_at}
use Rattle.basis.specs.Bland.{Mends}
use Rattle.dictionary.specs.Table.{dictionary_of}
use Rattle.simplex.proofs.Choices.{one_more}
use Rattle.simplex.proofs.choose.first_mending.Goals as goal

pub loop-q-preserved : goal.loop-q-preserved
loop-q-preserved c = one_more (Mends c.args.system.now c.args.dictionary.now.places (number_at c.args.values.now) (dictionary_of c.args.dictionary.now) c.args.r c.args.place) c.loop-q.q c.loop-q.invariant (c.mends.ensures.no c.if-mends.false)
