use Rattle.std.proofs.Common.{◌≡◌, drop}
use Rattle.cert_check.specs.Lookup.{entry_at}
use Rattle.exact_ranges.proofs.forms.entry_at.Given as goal

abbrev pub invariant-loop-entry : goal.invariant-loop-entry
invariant-loop-entry l = entry_at l.form l.column ≡ entry_at (drop l.entry-index l.form) l.column
