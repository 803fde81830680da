-- What is judged, then the rest.
use Rattle.std.proofs.Common.{◌≡◌, drop}
use Rattle.gmpl_statement_kinds.specs.StatementKinds.{values}
use Rattle.gmpl_statement_kinds.proofs.tables.values.Given as goal

abbrev pub invariant-loop-one : goal.invariant-loop-one
invariant-loop-one l = values l.objects l.site l.all ≡ values l.objects l.site (drop l.one-index l.all)
