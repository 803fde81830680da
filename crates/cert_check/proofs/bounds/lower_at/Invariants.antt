use Rattle.std.proofs.Common.{◌≡◌, ◌≤◌, length}
use Rattle.certificate.specs.Ways.{way}
use Rattle.cert_check.specs.Sums.{lower_answer}
use Rattle.cert_check.specs.Walk.{merged_answer}
use Rattle.cert_check.proofs.bounds.lower_at.Given as goal

abbrev pub invariant-loop-turn : goal.invariant-loop-turn
invariant-loop-turn l = record { within : l.at ≤ length l.tree; left : merged_answer l.found (lower_answer l.problem (way l.tree l.at) l.column) ≡ lower_answer l.problem (way l.tree l.place) l.column }

abbrev pub decreases-loop-turn : goal.decreases-loop-turn
decreases-loop-turn l = l.at
