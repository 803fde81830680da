-- Certificates by splits of columns.
use Rattle.std.specs.Prelude.{◌≡◌, []}
use Rattle.std.specs.List.{AllByRecursion}
use Rattle.verdicts.specs.Certificate.{TreeNode, Branch, Empty, Bound, Certificate}
use Rattle.search_tree.specs.Points.{IsOfColumn}

-- a split is one of a column
abbrev pub IsNodeOfColumns : TreeNode → Type 0
IsNodeOfColumns (Branch s) = IsOfColumn s
IsNodeOfColumns (Empty w) = Unit {0}
IsNodeOfColumns (Bound w) = Unit {0}

-- without derived rows, and each split one of a column
pub record IsBySplitsOfColumns (c : Certificate) : Type 0 where
  pub derived : c.derived ≡ []
  pub nodes : AllByRecursion IsNodeOfColumns c.tree
