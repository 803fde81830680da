use Rattle.std.proofs.Common.{◌≡◌, ◌++◌, drop}
use Rattle.verdicts.specs.WeightedSums.{coefficient_of}
use Rattle.cert_check.specs.Sums.{weight_products, are_forms}
use Rattle.cert_check.specs.Parts.{side_products, side_weights}
use Rattle.cert_check.proofs.forms.is_side_form.Given as goal

abbrev pub invariant-loop-j : goal.invariant-loop-j
invariant-loop-j l = are_forms (λ j. side_products l.split l.side j ++ weight_products l.setting (side_weights l.split l.side) j) (coefficient_of l.wanted) l.j (drop l.j l.columns) ≡ are_forms (λ j. side_products l.split l.side j ++ weight_products l.setting (side_weights l.split l.side) j) (coefficient_of l.wanted) 0 l.columns
