-- What is left to go over.
use Rattle.std.proofs.Common.{◌≡◌, drop}
use Rattle.gmpl_reader.specs.Data.{is_assigned}
use Rattle.gmpl_reader.proofs.data.is_assigned.Given as goal

abbrev pub invariant-loop-attribute : goal.invariant-loop-attribute
invariant-loop-attribute l = is_assigned l.attributes ≡ is_assigned (drop l.attribute-index l.attributes)
