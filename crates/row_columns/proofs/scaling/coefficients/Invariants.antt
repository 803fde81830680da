use Rattle.std.proofs.Common.{◌≡◌, map, take}
use Rattle.milp.specs.Form.{Entry}
use Rattle.row_columns.proofs.scaling.coefficients.Given as goal

abbrev pub invariant-loop-entry : goal.invariant-loop-entry
invariant-loop-entry l = l.made.items ≡ map (λ (e : Entry). e.coefficient) (take l.entry-index l.form)
