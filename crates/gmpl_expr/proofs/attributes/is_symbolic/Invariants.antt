use Rattle.std.proofs.Common.{◌≡◌, drop}
use Rattle.gmpl_meaning.specs.Restrictions as spec
use Rattle.gmpl_expr.proofs.attributes.is_symbolic.Given as goal

abbrev pub invariant-loop-attribute : goal.invariant-loop-attribute
invariant-loop-attribute l = spec.is_symbolic l.attributes ≡ spec.is_symbolic (drop l.attribute-index l.attributes)
