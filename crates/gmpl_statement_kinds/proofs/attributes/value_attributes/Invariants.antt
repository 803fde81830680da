-- What is judged, then the rest.
use Rattle.std.proofs.Common.{◌≡◌, drop}
use Rattle.gmpl_statement_kinds.specs.StatementKinds.{value_attributes}
use Rattle.gmpl_statement_kinds.proofs.attributes.value_attributes.Given as goal

abbrev pub invariant-loop-one : goal.invariant-loop-one
invariant-loop-one l = value_attributes l.objects l.site l.attributes ≡ value_attributes l.objects l.site (drop l.one-index l.attributes)
