use Rattle.std.proofs.Common.{◌≡◌}
use Rattle.basis.specs.Weights.{numbers_from}
use Rattle.simplex.specs.Ratio.{along}
use Rattle.simplex.proofs.ray.direction.Given as goal

abbrev pub invariant-loop-v : goal.invariant-loop-v
invariant-loop-v l = l.numbers.items ≡ numbers_from 0 l.v (along l.dictionary l.q l.rises)
