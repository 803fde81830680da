-- What is judged, then the rest.
use Rattle.std.proofs.Common.{◌≡◌, drop}
use Rattle.gmpl_statement_kinds.specs.StatementKinds.{items}
use Rattle.gmpl_statement_kinds.proofs.actions.items.Given as goal

abbrev pub invariant-loop-one : goal.invariant-loop-one
invariant-loop-one l = items l.objects l.site l.all ≡ items l.objects l.site (drop l.one-index l.all)
