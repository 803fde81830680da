use Rattle.std.proofs.Common.{◌≡◌, ◌++◌, ◌-◌, Ok}
use Rattle.gmpl_value.specs.Follows.{then_do}
use Rattle.gmpl_value.specs.Range.{steps}
use Rattle.gmpl_value.proofs.progression.stepped.Given as goal

abbrev pub invariant-loop-step : goal.invariant-loop-step
invariant-loop-step l = then_do (λ more. Ok (l.found.items ++ more)) (steps (l.count - l._step) l.number l.by) ≡ steps l.count l.fn.from l.by
