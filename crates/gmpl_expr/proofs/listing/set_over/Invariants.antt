use Rattle.std.proofs.Common.{◌≡◌, drop}
use Rattle.gmpl_meaning.specs.Expressions as spec
use Rattle.gmpl_expr.proofs.listing.set_over.Given as goal

abbrev pub invariant-loop-element : goal.invariant-loop-element
invariant-loop-element l = spec.set_over l.walk ≡ spec.gathered l.found (drop l.element-index l.walk.elements) l.walk.fault
