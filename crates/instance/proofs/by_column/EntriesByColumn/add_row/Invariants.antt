use Rattle.std.proofs.Common.{◌≡◌, take}
use Rattle.instance.specs.ByColumn.{with_form}
use Rattle.instance.proofs.by_column.EntriesByColumn.add_row.Given as goal

abbrev pub invariant-loop-entry : goal.invariant-loop-entry
invariant-loop-entry l = l.self ≡ with_form l.row (take l.entry-index l.entries) l.initial.self
