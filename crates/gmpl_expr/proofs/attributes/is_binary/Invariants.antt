use Rattle.std.proofs.Common.{◌≡◌, drop}
use Rattle.gmpl_meaning.specs.Restrictions as spec
use Rattle.gmpl_expr.proofs.attributes.is_binary.Given as goal

abbrev pub invariant-loop-attribute : goal.invariant-loop-attribute
invariant-loop-attribute l = spec.is_binary l.attributes ≡ spec.is_binary (drop l.attribute-index l.attributes)
