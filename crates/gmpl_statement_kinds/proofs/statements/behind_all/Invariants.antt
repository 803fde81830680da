-- What is judged, then the rest.
use Rattle.std.proofs.Common.{◌≡◌, drop}
use Rattle.gmpl_statement_kinds.specs.StatementKinds.{behind_all}
use Rattle.gmpl_statement_kinds.proofs.statements.behind_all.Given as goal

abbrev pub invariant-loop-one : goal.invariant-loop-one
invariant-loop-one l = behind_all l.objects l.fn.solved l.all ≡ behind_all l.objects l.solved (drop l.one-index l.all)
