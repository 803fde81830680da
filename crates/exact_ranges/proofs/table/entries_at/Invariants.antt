use Rattle.std.proofs.Common.{◌≡◌, ◌+◌, ◌++◌, drop}
use Rattle.exact_ranges.specs.Reached.{AllAscend}
use Rattle.exact_ranges.specs.CostParts.{entries_from}
use Rattle.exact_ranges.proofs.table.entries_at.Given as goal

abbrev pub invariant-loop-form : goal.invariant-loop-form
invariant-loop-form l = (l.place ≡ l.form-index + 1) × AllAscend (drop l.form-index l.forms) × (entries_from l.column 1 l.forms ≡ l.entries.items ++ entries_from l.column (l.form-index + 1) (drop l.form-index l.forms))
