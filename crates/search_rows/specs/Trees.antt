-- Trees that may be put in the place of a leased leaf.
use Rattle.std.specs.Prelude.{◌≡◌, List, [], Some}
use Rattle.verdicts.specs.Certificate.{Side as SideOf}
use Rattle.certificate.specs.declared.split.Side.{Side}
use Rattle.search_tree.specs.declared.leaf.Lease.{Lease}
use Rattle.search_tree.specs.declared.leaf.Leaf.{Leaf}
use Rattle.search_tree.specs.declared.leaf.Leaf.TheVariants.{Leased}
use Rattle.search_tree.specs.Tree.{Tree, AtLeaf, IsNotLeased, at_place, sides_to}
use Rattle.search_tree.specs.Nodes.{KeepsLeaf}
use Rattle.search_tree.specs.Board.{Board, value_of}
use Rattle.search_tree.specs.Steps.{MayGraft}

-- the tree may be put where this lease is open
abbrev pub MayStand : Board → Lease → Tree → Type 0
MayStand b lease t = (way : List Side) → at_place b.tree way ≡ Some (AtLeaf (Leased lease)) → MayGraft b way lease t

-- these splits lead to where this lease is open
abbrev pub LeadTo : Board → Lease → List SideOf → Type 0
LeadTo b lease sides = (way : List Side) → at_place b.tree way ≡ Some (AtLeaf (Leased lease)) → sides ≡ sides_to b.tree way []

-- what the leaf says of the node below these splits holds, against the best value
pub record IsLeafOf (b : Board) (sides : List SideOf) (leaf : Leaf) : Type 0 where
  pub kept : KeepsLeaf b.problem b.cuts b.pivot_limit (value_of b) sides leaf
  pub not_leased : IsNotLeased leaf
