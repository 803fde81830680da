-- What is left of the statements.
use Rattle.std.proofs.Common.{◌≡◌, ◌-◌, drop, length}
use Rattle.gmpl_generate.specs.Execution.{executed_from}
use Rattle.gmpl_generate.specs.Running.{made_of}
use Rattle.gmpl_generate.proofs.turns.executed_from.Given as goal

abbrev pub invariant-loop-place : goal.invariant-loop-place
invariant-loop-place l =
    (executed_from l.model l.from (drop l.from l.model.statements) l.model.steps l.initial.draft (made_of l.initial.so_far) ≡ executed_from l.model l.place (drop l.place l.model.statements) l.model.steps l.draft (made_of l.so_far)) × (l.context ≡ l.model)

abbrev pub decreases-loop-place : goal.decreases-loop-place
decreases-loop-place l = length l.model.statements - l.place
