use Rattle.std.proofs.Common.{◌≡◌, ◌++◌, drop}
use Rattle.row_columns.specs.Restored.{items_behind}
use Rattle.row_columns.proofs.weights.items_behind.Given as goal

abbrev pub invariant-loop-item : goal.invariant-loop-item
invariant-loop-item l = l.made ++ items_behind l.count (drop l.item-index l.items) ≡ items_behind l.count l.items
