use Rattle.std.proofs.Common.{subst}
use Rattle.simplex.specs.Steps.{IsChoice}
use Rattle.simplex.specs.declared.decision.Choice.{Choice}
use Rattle.simplex.proofs.StateLemmas.{failed, step_failure, next_state, next_count}
use Rattle.simplex.proofs.runs.proceed.Goals as goal

pub returns-in_err-advance-in-Next-clause-fault : goal.returns-in_err-advance-in-Next-clause-fault
returns-in_err-advance-in-Next-clause-fault c = λ limit.
    (let P : Choice → Type 0 = IsChoice c.args.system.now c.args.state.dictionary c.args.state.values.items in
    failed c.from_residual-in_err-advance-in-Next.result _ _ c.from_residual-in_err-advance-in-Next.ensures.1
    (step_failure c.args.system.now c.args.state.dictionary c.args.state.values.items c.args.state.bases c.requires c.in-Next.step (subst P c.in-Next.is c.in_ok-step.ensures.ok) limit _ c.in_err-advance-in-Next.ensures.fault))

pub returns-in_ok-advance-in-Next-clause-ok : goal.returns-in_ok-advance-in-Next-clause-ok
returns-in_ok-advance-in-Next-clause-ok c =
    let P : Choice → Type 0 = IsChoice c.args.system.now c.args.state.dictionary c.args.state.values.items in
    let is_step = subst P c.in-Next.is c.in_ok-step.ensures.ok in
    let made = c.in_ok-advance-in-Next.ensures.state in
    let new = c.in_ok-advance-in-Next.field-0 in (
      next_state c.args.system.now c.args.state.dictionary c.args.state.values.items c.args.state.bases c.requires c.in-Next.step is_step new.dictionary new.values.items new.bases made.basis made.dictionary made.values made.bases,
      next_count c.args.system.now c.args.state.dictionary c.args.state.values.items c.args.state.bases c.requires c.in-Next.step is_step new.bases _ made.bases,
    )
