use Rattle.std.proofs.Common.{◌≡◌, ◌≤◌, ◌-◌, length, drop}
use Rattle.cert_check.specs.Sums.{with_products}
use Rattle.cert_check.specs.Lookup.{at_index}
use Rattle.cert_check.proofs.lookup.with_index.Given as goal

abbrev pub invariant-loop-k : goal.invariant-loop-k
invariant-loop-k l = record { within : l.k ≤ length l.items; left : with_products l.total (at_index (drop l.k l.items) l.index l.factor) ≡ with_products l.fn.start (at_index l.items l.index l.factor) }

abbrev pub decreases-loop-k : goal.decreases-loop-k
decreases-loop-k l = length l.items - l.k
