use Rattle.std.proofs.Common.{◌≡◌, ◌++◌, drop}
use Rattle.exact_ranges.proofs.bound_rows.add_copies.Given as goal

abbrev pub invariant-loop-column : goal.invariant-loop-column
invariant-loop-column l = l.initial.made.items ++ l.columns ≡ l.made.items ++ drop l.column-index l.columns
