use Rattle.std.proofs.Common.{◌≡◌, drop}
use Rattle.std.specs.Prelude.{negsuc}
use Rattle.rational.specs.Rational.{whole}
use Rattle.verdicts.specs.WeightedSums.{scaled}
use Rattle.cert_check.specs.Totals.{with_form}
use Rattle.cert_check.proofs.totals.add_negative_form.Given as goal

abbrev pub invariant-loop-entry : goal.invariant-loop-entry
invariant-loop-entry l = with_form l.weight (scaled (whole (negsuc 0)) (drop l.entry-index l.form)) l.totals ≡ with_form l.weight (scaled (whole (negsuc 0)) l.form) l.initial.totals
