use Rattle.std.proofs.Common.{length, suc, ◌-◌}
use Rattle.std.specs.Prelude.{◌^◌}
use Rattle.basis.specs.System.{size}
use Rattle.simplex.specs.Steps.{IsAt}
use Rattle.simplex.proofs.runs.run_to_end.Given as goal

abbrev pub invariant-loop-next : goal.invariant-loop-next
invariant-loop-next l = IsAt l.system l.state

abbrev pub decreases-loop-next : goal.decreases-loop-next
decreases-loop-next l = suc (4 ^ size l.system) - length l.state.bases
