use Rattle.std.proofs.Common.{◌≡◌, ◌-◌, ◌++◌}
use Rattle.made_problem.specs.Draws.{state_of, every_fourth}
use Rattle.made_problem.proofs.draws.every_fourth.Given as goal

abbrev pub invariant-loop-draw : goal.invariant-loop-draw
invariant-loop-draw l = every_fourth (state_of l.number) l.count ≡ l.draws.items ++ every_fourth l.state (l.count - l._draw)
