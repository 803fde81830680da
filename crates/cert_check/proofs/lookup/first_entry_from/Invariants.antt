use Rattle.std.proofs.Common.{◌≡◌, ◌≤◌, ◌-◌, length, drop}
use Rattle.cert_check.specs.Lookup.{entry_at}
use Rattle.cert_check.proofs.lookup.first_entry_from.Given as goal

abbrev pub invariant-loop-low : goal.invariant-loop-low
invariant-loop-low l = record { order : l.low ≤ l.high; within : l.high ≤ length l.form; rest : entry_at (drop l.low l.form) l.column ≡ entry_at l.form l.column }

abbrev pub decreases-loop-low : goal.decreases-loop-low
decreases-loop-low l = l.high - l.low
