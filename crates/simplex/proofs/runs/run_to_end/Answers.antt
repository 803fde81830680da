use Rattle.std.proofs.Common.{subst}
use Rattle.simplex.specs.Steps.{IsProgress}
use Rattle.simplex.specs.declared.runs.Progress.{Progress}
use Rattle.simplex.proofs.RunLengths.{fewer_left}
use Rattle.simplex.proofs.StateLemmas.{failed}
use Rattle.simplex.proofs.runs.run_to_end.Goals as goal

pub returns-in_err-state-clause-fault : goal.returns-in_err-state-clause-fault
returns-in_err-state-clause-fault c = λ limit. failed c.from_residual.result _ _ c.from_residual.ensures.1 (c.in_err-state.ensures.fault limit)

pub returns-in_err-next-clause-fault : goal.returns-in_err-next-clause-fault
returns-in_err-next-clause-fault c = λ limit. failed c.from_residual-in_err-next.result _ _ c.from_residual-in_err-next.ensures.1 (c.in_err-next.ensures.fault limit)

pub loop-next-smaller : goal.loop-next-smaller
loop-next-smaller c =
    let P : Progress → Type 0 = IsProgress c.args.system.now c.loop-next.state in
    fewer_left c.args.system.now c.loop-next.state c.in-On.next (subst P c.in-On.is c.in_ok-next.ensures.ok)
