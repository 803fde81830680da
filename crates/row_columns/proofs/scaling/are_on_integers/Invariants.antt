use Rattle.std.proofs.Common.{◌≡◌, drop}
use Rattle.row_columns.specs.Scaling.{are_on_integers}
use Rattle.row_columns.proofs.scaling.are_on_integers.Given as goal

abbrev pub invariant-loop-entry : goal.invariant-loop-entry
invariant-loop-entry l = are_on_integers l.problem l.form ≡ are_on_integers l.problem (drop l.entry-index l.form)
