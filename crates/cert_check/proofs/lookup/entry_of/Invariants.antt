use Rattle.std.proofs.Common.{◌≡◌, ◌≤◌, ◌-◌, length, drop}
use Rattle.cert_check.specs.Lookup.{entry_at}
use Rattle.cert_check.proofs.lookup.entry_of.Given as goal

abbrev pub invariant-loop-k : goal.invariant-loop-k
invariant-loop-k l = record { within : l.k ≤ length l.form; rest : entry_at (drop l.k l.form) l.column ≡ entry_at l.form l.column }

abbrev pub decreases-loop-k : goal.decreases-loop-k
decreases-loop-k l = length l.form - l.k
