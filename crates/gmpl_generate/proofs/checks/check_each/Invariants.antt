-- What is left to go over.
use Rattle.std.proofs.Common.{◌≡◌, drop}
use Rattle.gmpl_generate.specs.Checks.{check_each}
use Rattle.gmpl_generate.proofs.checks.check_each.Given as goal

abbrev pub invariant-loop-bindings : goal.invariant-loop-bindings
invariant-loop-bindings l =
    (check_each l.model l.condition l.scopes.all l.scopes.fault ≡ check_each l.model l.condition (drop l.bindings-index l.scopes.all) l.scopes.fault) × (l.context ≡ l.model)
