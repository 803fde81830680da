-- What is left of the heads.
use Rattle.std.proofs.Common.{◌≡◌, drop}
use Rattle.gmpl_generate.specs.Scopes as spec
use Rattle.gmpl_generate.proofs.scopes.at_heads.Given as goal

abbrev pub invariant-loop-head : goal.invariant-loop-head
invariant-loop-head l =
    (spec.at_heads l.model l.heads (spec.alone l.bindings) ≡ spec.at_heads l.model (drop l.head-index l.heads) l.scopes) × (l.context ≡ l.model)
