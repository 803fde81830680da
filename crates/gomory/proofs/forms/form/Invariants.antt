use Rattle.std.proofs.Common.{◌≡◌}
use Rattle.milp.specs.Form.{number_at}
use Rattle.gomory.specs.Cuts.{form_from}
use Rattle.gomory.proofs.forms.form.Given as goal

abbrev pub invariant-loop-column : goal.invariant-loop-column
invariant-loop-column l = l.entries.items ≡ form_from 0 l.column (number_at l.list)
