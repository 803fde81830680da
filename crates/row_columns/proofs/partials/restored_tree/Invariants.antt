use Rattle.std.proofs.Common.{◌≡◌, ◌++◌, map, drop}
use Rattle.row_columns.specs.Restored.{restored_node}
use Rattle.row_columns.specs.Partials.{on_done}
use Rattle.row_columns.proofs.partials.restored_tree.Given as goal

abbrev pub invariant-loop-place : goal.invariant-loop-place
invariant-loop-place l = l.made ++ map (on_done (restored_node l.problem l.forms)) (drop l.place l.tree) ≡ map (on_done (restored_node l.problem l.forms)) l.tree
