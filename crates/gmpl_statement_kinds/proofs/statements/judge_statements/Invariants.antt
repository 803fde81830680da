-- What is judged, then the rest.
use Rattle.std.proofs.Common.{◌≡◌, drop}
use Rattle.gmpl_statement_kinds.specs.StatementKinds.{judgement, judged_from}
use Rattle.gmpl_statement_kinds.proofs.statements.judge_statements.Given as goal

abbrev pub invariant-loop-one : goal.invariant-loop-one
invariant-loop-one l = judgement l.fn.whole ≡ judged_from l.objects l.solved (drop l.one-index l.fn.whole.items) l.fn.whole.steps l.fn.whole.fault
