use Rattle.std.proofs.Common.{◌≡◌, ◌-◌}
use Rattle.gmpl_functions.specs.Powers.{with_factors, product_of}
use Rattle.gmpl_functions.proofs.powers.multiplied.Given as goal

abbrev pub invariant-loop-step : goal.invariant-loop-step
invariant-loop-step l = with_factors (l.count - l._step) l.product l.x ≡ product_of l.x l.count

abbrev pub decreases-loop-step : goal.decreases-loop-step
decreases-loop-step l = l.count - l._step
