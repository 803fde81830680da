use Rattle.std.proofs.Common.{◌≡◌}
use Rattle.made_problem.specs.Draws.{state_of}
use Rattle.made_problem.proofs.draws.state_of.Given as goal

abbrev pub invariant-loop-draw : goal.invariant-loop-draw
invariant-loop-draw l = l.state ≡ state_of l._draw
