use Rattle.std.proofs.Common.{◌≡◌, ◌≤◌, ◌++◌, length}
use Rattle.certificate.specs.Ways.{way}
use Rattle.certificate.specs.Written.{count_max}
use Rattle.migration.proofs.kept.turns_to.Given as goal

abbrev pub invariant-loop-turn : goal.invariant-loop-turn
invariant-loop-turn l = record { within : l.at ≤ length l.tree; few : length l.turns.items ≤ count_max; left : l.turns.items ++ way l.tree l.at ≡ way l.tree l.place }

abbrev pub decreases-loop-turn : goal.decreases-loop-turn
decreases-loop-turn l = l.at
