-- What is judged, then the rest.
use Rattle.std.proofs.Common.{◌≡◌, drop}
use Rattle.gmpl_statement_kinds.specs.StatementKinds.{actions}
use Rattle.gmpl_statement_kinds.proofs.actions.+actions.Given as goal

abbrev pub invariant-actions-loop-one : goal.invariant-actions-loop-one
invariant-actions-loop-one l = actions l.objects l.site l.all ≡ actions l.objects l.site (drop l.one-index l.all)
