-- What is judged, then the rest.
use Rattle.std.proofs.Common.{◌≡◌, Ok, drop}
use Rattle.gmpl_statement_kinds.specs.StatementKinds.{agreed_from, beside, set_of}
use Rattle.gmpl_statement_kinds.proofs.attributes.agreed_dimension.Given as goal

abbrev pub invariant-loop-one : goal.invariant-loop-one
invariant-loop-one l =
    agreed_from l.objects (beside l.fn.solved (set_of l.fn.subscripts l.fn.own)) (Ok l.fn.own) l.attributes ≡ agreed_from l.objects l.site l.agreed (drop l.one-index l.attributes)
