use Rattle.std.proofs.Common.{◌≡◌, ◌++◌, drop}
use Rattle.verdicts.specs.WeightedSums.{scaled}
use Rattle.row_columns.proofs.scaling.scaled.Given as goal

abbrev pub invariant-loop-entry : goal.invariant-loop-entry
invariant-loop-entry l = scaled l.by l.form ≡ l.made.items ++ scaled l.by (drop l.entry-index l.form)
