-- A certificate of a problem with cuts as rows, as one of the problem without them: each such row is a derived row.
use Rattle.std.specs.Prelude.{◌≡◌, List, [], map, length, None}
use Rattle.milp.specs.Problem.{Problem}
use Rattle.verdicts.specs.Certificate.{Two, Weights, Derived, Verdict, Optimal, Infeasible, Unbounded, TreeNode, Branch, Empty, Bound, Certificate}
use Rattle.verdicts.specs.Proves.{derived_tests, first_failing}
use Rattle.verdicts.specs.SplitRows.{first_items}
use Rattle.row_columns.specs.Restored.{items_behind}

-- the weights of the rows behind those of the problem are weights of derived rows
abbrev pub restored_weights : Problem → Weights → Weights
restored_weights p w = record { rows = first_items (length p.rows) w.rows; columns = w.columns; derived = items_behind (length p.rows) w.rows; splits = w.splits }

abbrev pub restored_node : Problem → TreeNode → TreeNode
restored_node p (Branch s) = Branch s
restored_node p (Empty w) = Empty (restored_weights p w)
restored_node p (Bound w) = Bound (restored_weights p w)

-- a certificate of an unbounded problem has no derived rows
abbrev pub derived_rows : Verdict → List Derived → List Derived
derived_rows Optimal cuts = cuts
derived_rows Infeasible cuts = cuts
derived_rows Unbounded cuts = []

abbrev pub restored : Problem → List Derived → Certificate → Certificate
restored p cuts c = record {
  version = Two;
  rows = length p.rows;
  columns = c.columns;
  verdict = c.verdict;
  value = c.value;
  point = c.point;
  ray = c.ray;
  derived = derived_rows c.verdict cuts;
  tree = map (restored_node p) c.tree;
}

-- ---- what is asked of certificates and cuts

-- of version 2, without derived rows
pub record IsByRows (c : Certificate) : Type 0 where
  pub version : c.version ≡ Two
  pub derived : c.derived ≡ []

-- each cut passes the test of a derived row, by rows of the problem and the cuts before it
abbrev pub AreShown : Problem → List Derived → Type 0
AreShown p cuts = first_failing (derived_tests p Two 1 [] cuts) ≡ None
