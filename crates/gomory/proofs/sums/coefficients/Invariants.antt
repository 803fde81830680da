use Rattle.std.proofs.Common.{◌≡◌, length}
use Rattle.milp.specs.Form.{number_at}
use Rattle.basis.specs.Weights.{numbers_from}
use Rattle.gomory.specs.Cuts.{sum_coefficient}
use Rattle.gomory.proofs.sums.coefficients.Given as goal

abbrev pub invariant-loop-column : goal.invariant-loop-column
invariant-loop-column l = record { size : length l.list.items ≡ l.column; numbers : l.list.items ≡ numbers_from 0 l.column (sum_coefficient l.instance (number_at l.weights)) }
