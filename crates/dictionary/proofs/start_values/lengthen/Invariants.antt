use Rattle.dictionary.specs.Sums.{AreLonger}
use Rattle.dictionary.proofs.start_values.lengthen.Given as goal

abbrev pub invariant-loop-k : goal.invariant-loop-k
invariant-loop-k l = AreLonger l.initial.values.items l._k l.values.items
