-- What is left of the statements.
use Rattle.std.proofs.Common.{◌≡◌, false, drop}
use Rattle.gmpl_generate.specs.Running.{made_of}
use Rattle.gmpl_generate.specs.Solved as spec
use Rattle.gmpl_generate.proofs.solved.statements_after.Given as goal

abbrev pub invariant-loop-numbered : goal.invariant-loop-numbered
invariant-loop-numbered l =
    (spec.statements_after l.model false l.statements (made_of l.initial.so_far) ≡ spec.statements_after l.model l.solved (drop l.numbered-index l.statements) (made_of l.so_far)) × (l.context ≡ l.model)
