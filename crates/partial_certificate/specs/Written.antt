-- Which partial certificates have a text.
use Rattle.std.specs.Prelude.{ℕ, ◌≡◌, ◌≤◌, Bool, List, length, map, IsTrue, IfSome}
use Rattle.std.specs.List.{AllByRecursion}
use Rattle.fraction.specs.Fits.{fits}
use Rattle.certificate.specs.Written.{count_max, IsNode, IsDerived, is_tree}
use Rattle.partial_certificate.specs.Partial.{Best, PartialNode, Partial, shape}

-- one whole tree, in preorder
abbrev pub is_whole : List PartialNode → Bool
is_whole nodes = is_tree (map shape nodes)

-- each node has a line
abbrev pub AreNodes : List PartialNode → Type 0
AreNodes nodes = AllByRecursion IsNode (map shape nodes)

-- the numbers fit
pub record IsBest (b : Best) : Type 0 where
  pub point : AllByRecursion (λ v. IsTrue (fits v)) b.point
  pub value : IsTrue (fits b.value)

-- a number for each of `count` columns
abbrev pub HasSize : ℕ → Best → Type 0
HasSize count b = length b.point ≡ count

pub record HasText (c : Partial) : Type 0 where
  pub rows : c.rows ≤ count_max
  pub columns : c.columns ≤ count_max
  pub best : IfSome c.best IsBest
  pub size : IfSome c.best (HasSize c.columns)
  pub count : length c.derived ≤ count_max
  pub derived : AllByRecursion IsDerived c.derived
  pub nodes : AreNodes c.tree
  pub whole : IsTrue (is_whole c.tree)
