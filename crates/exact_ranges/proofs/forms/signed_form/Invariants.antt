use Rattle.std.proofs.Common.{◌≡◌, ◌++◌, drop}
use Rattle.milp.specs.Points.{sign_of}
use Rattle.verdicts.specs.WeightedSums.{scaled}
use Rattle.exact_ranges.proofs.forms.signed_form.Given as goal

abbrev pub invariant-loop-entry : goal.invariant-loop-entry
invariant-loop-entry l = scaled (sign_of l.direction) l.form ≡ l.made.items ++ scaled (sign_of l.direction) (drop l.entry-index l.form)
