use Rattle.std.proofs.Common.{◌≡◌, length, reverse}
use Rattle.cert_check.specs.Walk.{turned}
use Rattle.cert_check.proofs.turns.turn_back.Given as goal

abbrev pub invariant-loop-turn : goal.invariant-loop-turn
invariant-loop-turn l = turned (reverse l.turns.items) ≡ turned (reverse l.initial.turns.items)

abbrev pub decreases-loop-turn : goal.decreases-loop-turn
decreases-loop-turn l = length l.turns.items
