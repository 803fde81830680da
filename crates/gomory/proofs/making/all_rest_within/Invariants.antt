use Rattle.std.proofs.Common.{◌≡◌, drop}
use Rattle.gomory.specs.HasCut.{all_rest_within}
use Rattle.gomory.proofs.making.all_rest_within.Given as goal

abbrev pub invariant-loop-v : goal.invariant-loop-v
invariant-loop-v l = all_rest_within (drop l.v l.places) (drop l.v l.rates) ≡ all_rest_within l.places l.rates
