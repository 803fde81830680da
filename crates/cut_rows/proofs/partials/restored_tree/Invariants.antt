use Rattle.std.proofs.Common.{◌≡◌, ◌++◌, map, drop}
use Rattle.row_columns.specs.Partials.{on_done}
use Rattle.cut_rows.specs.Restored.{restored_node}
use Rattle.cut_rows.proofs.partials.restored_tree.Given as goal

abbrev pub invariant-loop-place : goal.invariant-loop-place
invariant-loop-place l = l.made ++ map (on_done (restored_node l.problem)) (drop l.place l.tree) ≡ map (on_done (restored_node l.problem)) l.tree
