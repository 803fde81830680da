use Rattle.std.proofs.Common.{◌≡◌, drop}
use Rattle.gmpl_meaning.specs.Restrictions as spec
use Rattle.gmpl_expr.proofs.attributes.default_of.Given as goal

abbrev pub invariant-loop-attribute : goal.invariant-loop-attribute
invariant-loop-attribute l = spec.default_of l.attributes ≡ spec.default_of (drop l.attribute-index l.attributes)
