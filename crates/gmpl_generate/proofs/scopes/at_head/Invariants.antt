-- What is left to go over.
use Rattle.std.proofs.Common.{◌≡◌, [], drop}
use Rattle.gmpl_generate.specs.Scopes as spec
use Rattle.gmpl_generate.proofs.scopes.at_head.Given as goal

abbrev pub invariant-loop-bindings : goal.invariant-loop-bindings
invariant-loop-bindings l =
    (spec.at_head l.model l.head [] l.scopes.all l.scopes.fault ≡ spec.at_head l.model l.head l.found (drop l.bindings-index l.scopes.all) l.scopes.fault) × (l.context ≡ l.model)
