use Rattle.std.proofs.Common.{◌≡◌, ◌≤◌, length}
use Rattle.verdicts.specs.Proves.{upper_under}
use Rattle.certificate.specs.Ways.{way}
use Rattle.cert_check.specs.Walk.{merged_upper}
use Rattle.cert_check.proofs.bounds.upper_at.Given as goal

abbrev pub invariant-loop-turn : goal.invariant-loop-turn
invariant-loop-turn l = record { within : l.at ≤ length l.tree; left : merged_upper l.found (upper_under l.problem (way l.tree l.at) l.column) ≡ upper_under l.problem (way l.tree l.place) l.column }

abbrev pub decreases-loop-turn : goal.decreases-loop-turn
decreases-loop-turn l = l.at
