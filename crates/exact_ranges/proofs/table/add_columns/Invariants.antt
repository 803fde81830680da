use Rattle.std.proofs.Common.{◌≡◌, ◌++◌, drop}
use Rattle.exact_ranges.specs.CostParts.{table_from}
use Rattle.exact_ranges.proofs.table.add_columns.Given as goal

abbrev pub invariant-loop-column : goal.invariant-loop-column
invariant-loop-column l = (l.place ≡ l._column-index) × (l.initial.table.items ++ table_from l.problem l.forms 0 l.columns ≡ l.table.items ++ table_from l.problem l.forms l._column-index (drop l._column-index l.columns))
