use Rattle.std.proofs.Common.{◌≡◌, drop}
use Rattle.cert_check.specs.Totals.{with_form}
use Rattle.cert_check.proofs.totals.add_form.Given as goal

abbrev pub invariant-loop-entry : goal.invariant-loop-entry
invariant-loop-entry l = with_form l.weight (drop l.entry-index l.form) l.totals ≡ with_form l.weight l.form l.initial.totals
