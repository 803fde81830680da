-- What is left of the steps.
use Rattle.std.proofs.Common.{◌≡◌, drop}
use Rattle.gmpl_generate.specs.Running.{made_of}
use Rattle.gmpl_generate.specs.Steps as spec
use Rattle.gmpl_generate.proofs.steps.steps_before.Given as goal

abbrev pub invariant-loop-place : goal.invariant-loop-place
invariant-loop-place l =
    (spec.steps_before l.model l.from (drop l.from l.steps) (made_of l.initial.so_far) ≡ spec.steps_before l.model l.place (drop l.place l.steps) (made_of l.so_far)) × (l.context ≡ l.model)
