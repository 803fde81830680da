use Rattle.std.proofs.Common.{◌≡◌, ◌++◌, drop}
use Rattle.verdicts.specs.SplitRows.{first_items}
use Rattle.row_columns.proofs.weights.first_items.Given as goal

abbrev pub invariant-loop-item : goal.invariant-loop-item
invariant-loop-item l = l.made ++ first_items l.count (drop l.item-index l.items) ≡ first_items l.count l.items
