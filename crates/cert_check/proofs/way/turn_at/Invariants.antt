use Rattle.std.proofs.Common.{◌≡◌, ◌≤◌, length}
use Rattle.verdicts.specs.Proves.{way_get}
use Rattle.certificate.specs.Ways.{way}
use Rattle.cert_check.proofs.way.turn_at.Given as goal

abbrev pub invariant-loop-turn : goal.invariant-loop-turn
invariant-loop-turn l = record { within : l.at ≤ length l.tree; deep : l.depth ≡ length (way l.tree l.at); left : way_get (way l.tree l.at) l.i ≡ way_get (way l.tree l.place) l.i }

abbrev pub decreases-loop-turn : goal.decreases-loop-turn
decreases-loop-turn l = l.at
