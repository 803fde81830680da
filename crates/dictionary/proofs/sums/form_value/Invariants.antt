use Rattle.std.proofs.Common.{◌≡◌}
use Rattle.milp.specs.Form.{number_at}
use Rattle.basis.specs.Numbers.{prefix_sum, products_of}
use Rattle.dictionary.proofs.sums.form_value.Given as goal

abbrev pub invariant-loop-entry : goal.invariant-loop-entry
invariant-loop-entry l = l.total ≡ prefix_sum (products_of l.form (number_at l.x)) l.entry-index
