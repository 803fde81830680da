-- Partial certificates by splits of columns.
use Rattle.std.specs.Prelude.{◌≡◌, []}
use Rattle.std.specs.List.{AllByRecursion}
use Rattle.verdicts.specs.Certificate.{Branch, Empty, Bound}
use Rattle.certificate.specs.Written.{column_form, split_column}
use Rattle.partial_certificate.specs.Partial.{PartialNode, Done, Todo, Partial}

-- a split is one of a column
abbrev pub IsOfColumns : PartialNode → Type 0
IsOfColumns (Done (Branch s)) = s.form ≡ column_form (split_column s)
IsOfColumns (Done (Empty w)) = Unit {0}
IsOfColumns (Done (Bound w)) = Unit {0}
IsOfColumns Todo = Unit {0}

-- without derived rows, and each split one of a column
pub record IsBySplitsOfColumns (c : Partial) : Type 0 where
  pub derived : c.derived ≡ []
  pub nodes : AllByRecursion IsOfColumns c.tree
