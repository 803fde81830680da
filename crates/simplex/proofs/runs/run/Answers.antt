use Rattle.std.proofs.Common.{arith}
use Rattle.simplex.proofs.StateLemmas.{failed}
use Rattle.simplex.proofs.runs.run.Goals as goal

pub returns-in_err-state-clause-fault : goal.returns-in_err-state-clause-fault
returns-in_err-state-clause-fault c = failed c.from_residual.result _ _ c.from_residual.ensures.1 (c.in_err-state.ensures.fault c.args.limit)

pub returns-in_err-next-clause-fault : goal.returns-in_err-next-clause-fault
returns-in_err-next-clause-fault c = failed c.from_residual-in_err-next.result _ _ c.from_residual-in_err-next.ensures.1 (c.in_err-next.ensures.fault c.args.limit)

pub returns-then-limit-eq0-clause-fault : goal.returns-then-limit-eq0-clause-fault
returns-then-limit-eq0-clause-fault c = c.run_to_end.ensures.fault c.args.limit

pub returns-clause-fault : goal.returns-clause-fault
returns-clause-fault c = c.finish.ensures.fault c.args.limit c.if-limit-eq0.false (omega (arith, c.loop-step.invariant.1))
