-- What is left of the weights.
use Rattle.std.proofs.Common.{◌≡◌, drop}
use Rattle.dual_values.specs.Duals.{sums_from}
use Rattle.dual_values.proofs.sums.add_weights.Given as goal

abbrev pub invariant-loop-item : goal.invariant-loop-item
invariant-loop-item l =
    sums_from 0 l.items l.initial.sums ≡ sums_from 0 (drop l.item-index l.items) l.sums
