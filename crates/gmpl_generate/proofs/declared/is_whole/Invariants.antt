-- What is left to look at.
use Rattle.std.proofs.Common.{◌≡◌, drop}
use Rattle.gmpl_generate.specs.Problem as spec
use Rattle.gmpl_generate.proofs.declared.is_whole.Given as goal

abbrev pub invariant-loop-attribute : goal.invariant-loop-attribute
invariant-loop-attribute l = spec.is_whole l.attributes ≡ spec.is_whole (drop l.attribute-index l.attributes)
