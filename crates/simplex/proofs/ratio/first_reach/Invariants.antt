use Rattle.milp.specs.Form.{number_at}
use Rattle.simplex.specs.Ratio.{along}
use Rattle.simplex.proofs.RatioLemmas.{IsFirstBefore}
use Rattle.simplex.proofs.ratio.first_reach.Given as goal

abbrev pub invariant-loop-v : goal.invariant-loop-v
invariant-loop-v l = IsFirstBefore l.system (number_at l.values) (along l.dictionary l.q l.rises) l.v l.first
