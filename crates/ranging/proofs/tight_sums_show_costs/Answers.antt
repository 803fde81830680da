use Rattle.ranging.proofs.TightSums.{tight_sum_best, tight_sum_no_highest, tight_sum_no_lowest}
use Rattle.ranging.proofs.tight_sums_show_costs.Goals as goal

pub returns : goal.returns
returns c = record { best = tight_sum_best; no_highest = tight_sum_no_highest; no_lowest = tight_sum_no_lowest }
