use Rattle.dictionary.specs.Start.{AreCounted}
use Rattle.dictionary.proofs.start.count_on.Given as goal

abbrev pub invariant-loop-k : goal.invariant-loop-k
invariant-loop-k l = AreCounted l.initial.positions.items l.k l.positions.items
