-- What is judged, then the rest.
use Rattle.std.proofs.Common.{◌≡◌, drop}
use Rattle.gmpl_statement_kinds.specs.StatementKinds.{parameters}
use Rattle.gmpl_statement_kinds.proofs.tables.parameters.Given as goal

abbrev pub invariant-loop-one : goal.invariant-loop-one
invariant-loop-one l = parameters l.objects l.count l.all ≡ parameters l.objects l.count (drop l.one-index l.all)
