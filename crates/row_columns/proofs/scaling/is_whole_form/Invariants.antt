use Rattle.std.proofs.Common.{◌≡◌, drop}
use Rattle.verdicts.specs.Proves.{is_whole_form}
use Rattle.row_columns.proofs.scaling.is_whole_form.Given as goal

abbrev pub invariant-loop-entry : goal.invariant-loop-entry
invariant-loop-entry l = is_whole_form l.problem l.form ≡ is_whole_form l.problem (drop l.entry-index l.form)
