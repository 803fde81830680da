-- A partial certificate of a problem with columns for forms, as one of the problem without them.
use Rattle.std.specs.Prelude.{List, [], map, drop, length, option_map}
use Rattle.milp.specs.Form.{Entry}
use Rattle.milp.specs.Problem.{Problem}
use Rattle.verdicts.specs.Certificate.{TreeNode}
use Rattle.partial_certificate.specs.Partial.{Best, PartialNode, Done, Todo, Partial}
use Rattle.row_columns.specs.Restored.{restored_node}

-- another node of a certificate in the place of one; a leaf that is left to do stays so
abbrev pub on_done : (TreeNode → TreeNode) → PartialNode → PartialNode
on_done f (Done node) = Done (f node)
on_done f Todo = Todo

abbrev pub restored_best : List (List Entry) → Best → Best
restored_best forms b = record { point = drop (length forms) b.point; value = b.value }

abbrev pub restored_partial : Problem → List (List Entry) → Partial → Partial
restored_partial p forms c = record {
  rows = length p.rows;
  columns = length p.columns;
  best = option_map (restored_best forms) c.best;
  derived = [];
  tree = map (on_done (restored_node p forms)) c.tree;
}
