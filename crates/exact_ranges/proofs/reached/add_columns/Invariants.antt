use Rattle.std.proofs.Common.{◌≡◌, ◌++◌, drop}
use Rattle.exact_ranges.specs.Reached.{reached_columns}
use Rattle.exact_ranges.proofs.reached.add_columns.Given as goal

abbrev pub invariant-loop-column : goal.invariant-loop-column
invariant-loop-column l = (l.place ≡ l.column-index) × (l.initial.forms.items ++ reached_columns l.x 0 l.columns ≡ l.forms.items ++ reached_columns l.x l.column-index (drop l.column-index l.columns))
