use Rattle.std.proofs.Common.{◌≡◌, ◌+◌, length}
use Rattle.simplex.specs.Steps.{IsAt}
use Rattle.simplex.proofs.runs.run.Given as goal

abbrev pub invariant-loop-step : goal.invariant-loop-step
invariant-loop-step l = IsAt l.system l.state × (length l.state.bases ≡ l._step + 1)
