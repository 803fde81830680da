-- What is left of the steps.
use Rattle.std.proofs.Common.{◌≡◌, drop}
use Rattle.gmpl_generate.specs.Running.{made_of}
use Rattle.gmpl_generate.specs.Steps as spec
use Rattle.gmpl_generate.proofs.steps.steps_after.Given as goal

abbrev pub invariant-loop-step : goal.invariant-loop-step
invariant-loop-step l =
    (spec.steps_after l.model l.initial.solved l.steps (made_of l.initial.so_far) ≡ spec.steps_after l.model l.solved (drop l.step-index l.steps) (made_of l.so_far)) × (l.context ≡ l.model)
