-- A partial certificate of a problem with cuts as rows, as one of the problem without them: each such row is a derived row.
use Rattle.std.specs.Prelude.{List, map, length}
use Rattle.milp.specs.Problem.{Problem}
use Rattle.verdicts.specs.Certificate.{Derived}
use Rattle.partial_certificate.specs.Partial.{Partial}
use Rattle.row_columns.specs.Partials.{on_done}
use Rattle.cut_rows.specs.Restored.{restored_node}

abbrev pub restored_partial : Problem → List Derived → Partial → Partial
restored_partial p cuts c = record {
  rows = length p.rows;
  columns = c.columns;
  best = c.best;
  derived = cuts;
  tree = map (on_done (restored_node p)) c.tree;
}
