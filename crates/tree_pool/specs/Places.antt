-- Places of leaves in a tree.
use Rattle.std.specs.Prelude.{◌≡◌, List, [], ◌∷◌, Some}
use Rattle.certificate.specs.declared.split.Side.{Side}
use Rattle.certificate.specs.declared.split.Side.TheVariants.{Low, High}
use Rattle.search_node.specs.declared.node.SplitTaken.{SplitTaken}
use Rattle.search_tree.specs.declared.leaf.Lease.{Lease}
use Rattle.search_tree.specs.declared.leaf.Leaf.TheVariants.{Leased}
use Rattle.search_tree.specs.Tree.{Tree, Divided, AtLeaf, AllLeaves, at_place}
use Rattle.search_tree.specs.Kept.{closed_node}
use Rattle.search_tree.specs.Finished.{IsThere}

-- a leaf is leased with this lease
pub record IsOpen (t : Tree) (lease : Lease) : Type 0 where
  pub way : List Side
  pub there : at_place t way ≡ Some (AtLeaf (Leased lease))

-- each leaf is closed
abbrev pub AreClosed : Tree → Type 0
AreClosed t = AllLeaves (λ sides leaf. IsThere (closed_node leaf)) [] t

-- the splits on the way to a place, the first of them first
abbrev pub taken_to : Tree → List Side → List SplitTaken
taken_to t [] = []
taken_to (AtLeaf leaf) (side ∷ way) = []
taken_to (Divided s low high) (Low ∷ way) = record { split = s; side = Low } ∷ taken_to low way
taken_to (Divided s low high) (High ∷ way) = record { split = s; side = High } ∷ taken_to high way
