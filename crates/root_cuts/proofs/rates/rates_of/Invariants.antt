use Rattle.std.proofs.Common.{◌≡◌}
use Rattle.basis.specs.Weights.{numbers_from}
use Rattle.dictionary.specs.Table.{dictionary_of}
use Rattle.root_cuts.specs.RootBasis.{rate_at}
use Rattle.root_cuts.proofs.rates.rates_of.Given as goal

abbrev pub invariant-loop-v : goal.invariant-loop-v
invariant-loop-v l = l.rates.items ≡ numbers_from 0 l.v (rate_at l.dictionary.places (dictionary_of l.dictionary) l.r)
