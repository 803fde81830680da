use Rattle.std.proofs.Common.{◌≡◌, drop}
use Rattle.gmpl_meaning.specs.Restrictions as spec
use Rattle.gmpl_expr.proofs.attributes.all_allow.Given as goal

abbrev pub invariant-loop-attribute : goal.invariant-loop-attribute
invariant-loop-attribute l = spec.all_allow l.attributes l.symbol ≡ spec.all_allow (drop l.attribute-index l.attributes) l.symbol
