use Rattle.std.proofs.Common.{◌≡◌, ◌≤◌, ◌-◌, length, drop}
use Rattle.rational.specs.Rational.{Rational}
use Rattle.cert_check.specs.Lookup.{at_index}
use Rattle.cert_check.proofs.lookup.first_from.Given as goal

abbrev pub invariant-loop-low : goal.invariant-loop-low
invariant-loop-low l = record { order : l.low ≤ l.high; within : l.high ≤ length l.items; rest : (factor : Rational) → at_index (drop l.low l.items) l.index factor ≡ at_index l.items l.index factor }

abbrev pub decreases-loop-low : goal.decreases-loop-low
decreases-loop-low l = l.high - l.low
