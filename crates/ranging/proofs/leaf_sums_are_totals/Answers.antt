use Rattle.ranging.proofs.TightWeights.{leaf_sum_is_value}
use Rattle.ranging.proofs.leaf_sums_are_totals.Goals as goal

pub returns : goal.returns
returns c = λ p x v w ts i s b. leaf_sum_is_value p x v w ts
