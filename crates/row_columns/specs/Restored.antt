-- A certificate of a problem with columns for forms, as one of the problem without them: a split of such a column is one of its form.
use Rattle.std.specs.Prelude.{ℕ, ◌-◌, ◌≡◌, nat_lt, List, [], ◌∷◌, map, drop, length, get_or, option_map, if◌then◌else◌}
use Rattle.std.specs.List.{AllByRecursion}
use Rattle.milp.specs.Form.{Entry}
use Rattle.milp.specs.Problem.{Problem}
use Rattle.verdicts.specs.Certificate.{Two, Item, Weights, Split, TreeNode, Branch, Empty, Bound, Certificate}
use Rattle.verdicts.specs.SplitRows.{first_items}
use Rattle.certificate.specs.Written.{column_form, split_column}

-- the column j as a form over the columns behind those of the forms
abbrev pub restored_column : List (List Entry) → ℕ → List Entry
restored_column forms j = if nat_lt j (length forms) then get_or forms j [] else column_form (j - length forms)

abbrev pub restored_split : List (List Entry) → Split → Split
restored_split forms s = record { form = restored_column forms (split_column s); at = s.at }

-- the weights of the columns behind the first `count`
abbrev pub items_behind : ℕ → List Item → List Item
items_behind count [] = []
items_behind count (i ∷ is) = if nat_lt i.index count then items_behind count is else record { index = i.index - count; weight = i.weight } ∷ items_behind count is

-- without the weights of the rows that tie the forms' columns, of which there are none of bounds
abbrev pub restored_weights : Problem → List (List Entry) → Weights → Weights
restored_weights p forms w = record { rows = first_items (length p.rows) w.rows; columns = items_behind (length forms) w.columns; derived = w.derived; splits = w.splits }

abbrev pub restored_node : Problem → List (List Entry) → TreeNode → TreeNode
restored_node p forms (Branch s) = Branch (restored_split forms s)
restored_node p forms (Empty w) = Empty (restored_weights p forms w)
restored_node p forms (Bound w) = Bound (restored_weights p forms w)

abbrev pub restored : Problem → List (List Entry) → Certificate → Certificate
restored p forms c = record {
  version = Two;
  rows = length p.rows;
  columns = length p.columns;
  verdict = c.verdict;
  value = c.value;
  point = option_map (drop (length forms)) c.point;
  ray = option_map (drop (length forms)) c.ray;
  derived = [];
  tree = map (restored_node p forms) c.tree;
}

-- ---- certificates that can be restored

-- a split is one of a column
abbrev pub IsNodeOfColumns : TreeNode → Type 0
IsNodeOfColumns (Branch s) = s.form ≡ column_form (split_column s)
IsNodeOfColumns (Empty w) = Unit {0}
IsNodeOfColumns (Bound w) = Unit {0}

-- of version 2, without derived rows, and each split of one column
pub record IsBySplitsOfColumns (c : Certificate) : Type 0 where
  pub version : c.version ≡ Two
  pub derived : c.derived ≡ []
  pub nodes : AllByRecursion IsNodeOfColumns c.tree
