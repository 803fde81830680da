use Rattle.std.proofs.Common.{◌≡◌, drop}
use Rattle.verdicts.specs.WeightedSums.{coefficient_of}
use Rattle.cert_check.specs.Sums.{weight_products, are_forms}
use Rattle.cert_check.specs.Parts.{signed_by}
use Rattle.cert_check.proofs.forms.is_form_by_column.Given as goal

abbrev pub invariant-loop-j : goal.invariant-loop-j
invariant-loop-j l = are_forms (weight_products l.setting l.weights) (λ j. signed_by l.sign (coefficient_of l.wanted j)) l.j (drop l.j l.columns) ≡ are_forms (weight_products l.setting l.weights) (λ j. signed_by l.sign (coefficient_of l.wanted j)) 0 l.columns
