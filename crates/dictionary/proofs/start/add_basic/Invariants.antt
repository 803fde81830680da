use Rattle.dictionary.specs.Start.{AreBasicPast}
use Rattle.dictionary.proofs.start.add_basic.Given as goal

abbrev pub invariant-loop-k : goal.invariant-loop-k
invariant-loop-k l = AreBasicPast l.initial.places.items l._k l.places.items
