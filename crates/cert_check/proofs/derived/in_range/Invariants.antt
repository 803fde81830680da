use Rattle.std.proofs.Common.{◌≡◌, drop}
use Rattle.verdicts.specs.Proves.{in_range}
use Rattle.cert_check.proofs.derived.in_range.Given as goal

abbrev pub invariant-loop-entry : goal.invariant-loop-entry
invariant-loop-entry l = in_range l.count (drop l.entry-index l.form) ≡ in_range l.count l.form
