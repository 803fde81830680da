use Rattle.std.proofs.Common.{◌≡◌, ◌++◌, drop}
use Rattle.exact_ranges.specs.CostParts.{weights_for, cost_columns}
use Rattle.exact_ranges.proofs.cost_rows.cost_columns.Given as goal

abbrev pub invariant-loop-form : goal.invariant-loop-form
invariant-loop-form l = cost_columns l.forms ≡ l.columns.items ++ weights_for (drop l._form-index l.forms)
