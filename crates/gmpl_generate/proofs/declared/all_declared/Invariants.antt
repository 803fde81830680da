-- What is left to declare.
use Rattle.std.proofs.Common.{◌≡◌, ◌++◌, drop, map}
use Rattle.gmpl_generate.specs.Problem as spec
use Rattle.gmpl_generate.proofs.declared.all_declared.Given as goal

abbrev pub invariant-loop-numbered : goal.invariant-loop-numbered
invariant-loop-numbered l = map spec.declared_at l.model.statements ≡ l.all.items ++ map spec.declared_at (drop l.numbered-index l.model.statements)
