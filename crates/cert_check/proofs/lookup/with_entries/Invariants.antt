use Rattle.std.proofs.Common.{◌≡◌, drop}
use Rattle.cert_check.specs.Sums.{with_products}
use Rattle.cert_check.specs.Lookup.{at_entries}
use Rattle.cert_check.proofs.lookup.with_entries.Given as goal

abbrev pub invariant-loop-entry : goal.invariant-loop-entry
invariant-loop-entry l = with_products l.total (at_entries (drop l.entry-index l.entries) l.items) ≡ with_products l.fn.start (at_entries l.entries l.items)
