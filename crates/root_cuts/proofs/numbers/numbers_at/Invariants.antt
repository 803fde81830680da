use Rattle.std.proofs.Common.{◌≡◌}
use Rattle.basis.specs.Weights.{numbers_from}
use Rattle.root_cuts.specs.RootBasis.{variable_number}
use Rattle.root_cuts.proofs.numbers.numbers_at.Given as goal

abbrev pub invariant-loop-v : goal.invariant-loop-v
invariant-loop-v l = l.numbers.items ≡ numbers_from 0 l.v (variable_number l.problem l.point)
