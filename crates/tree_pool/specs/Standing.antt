-- Where the nodes of a board's tree stand: each has a place of its own, which it keeps.
use Rattle.std.specs.Prelude.{ℕ, zero, suc, ◌≡◌, ◌<◌, ◌+◌, ◌*◌, List, [], ◌∷◌, ◌++◌, map, length, get_or, Option, Some, option_map}
use Rattle.verdicts.specs.Certificate.{Split}
use Rattle.certificate.specs.declared.split.Side.{Side}
use Rattle.certificate.specs.declared.split.Side.TheVariants.{Low, High}
use Rattle.search_node.specs.declared.node.SplitTaken.{SplitTaken}
use Rattle.search_tree.specs.declared.leaf.Slot.{Slot}
use Rattle.search_tree.specs.declared.leaf.Slot.TheVariants as slot
use Rattle.search_tree.specs.Tree.{Tree, Divided, AtLeaf, at_place, made}
use Rattle.tree_pool.specs.declared.refs.NodeRef.{NodeRef}
use Rattle.tree_pool.specs.declared.refs.NodeRef.TheVariants.{Again, Under, Held, Forked}
use Rattle.tree_pool.specs.Paths.{path_at}
use Rattle.tree_pool.specs.Places.{taken_to}

-- the sides of splits
abbrev pub way_of : List SplitTaken → List Side
way_of taken = map (λ (t : SplitTaken). t.side) taken

-- the node at a tree's root
abbrev pub root_of : Tree → Slot
root_of (Divided s low high) = slot.Divided s
root_of (AtLeaf leaf) = slot.Leaf leaf

-- the node to which a way leads
abbrev pub node_on : Tree → List Side → Option Slot
node_on t way = option_map root_of (at_place t way)

-- these splits are those on the way to this node
pub record IsOn (t : Tree) (taken : List SplitTaken) (node : Slot) : Type 0 where
  pub there : node_on t (way_of taken) ≡ Some node
  pub are_taken : taken_to t (way_of taken) ≡ taken

-- the place of a split's low side, behind which its high side stands
abbrev pub side_of : NodeRef → ℕ
side_of Again = 0
side_of (Under entry) = 0
side_of (Held entry n) = 0
side_of (Forked entry n low) = low

abbrev pub ref_at : List NodeRef → ℕ → NodeRef
ref_at refs place = get_or refs place Again

-- the sides of the split s, to which this path leads, stand at this place and the next
pub record AreSides (paths : List (List SplitTaken)) (count : ℕ) (path : List SplitTaken) (s : Split) (place : ℕ) : Type 0 where
  pub within : suc place < count
  pub low : path_at paths place ≡ path ++ record { split = s; side = Low } ∷ []
  pub high : path_at paths (suc place) ≡ path ++ record { split = s; side = High } ∷ []

-- the nodes of a tree by their places, where `node` reads a reference: the root has the first place, at each place stands the node to
-- which its path leads, no two have one path, and the sides of each split have places
pub record AreNodes (node : NodeRef → Slot) (t : Tree) (paths : List (List SplitTaken)) (refs : List NodeRef) : Type 0 where
  pub count : length refs ≡ made t * 2 + 1
  pub each : length paths ≡ length refs
  pub root : path_at paths 0 ≡ []
  pub stands : (p : ℕ) → p < length refs → IsOn t (path_at paths p) (node (ref_at refs p))
  pub sides : (p : ℕ) (s : Split) → p < length refs → node (ref_at refs p) ≡ slot.Divided s → AreSides paths (length refs) (path_at paths p) s (side_of (ref_at refs p))
  pub apart : (p q : ℕ) → p < length refs → q < length refs → path_at paths p ≡ path_at paths q → p ≡ q

-- the places that are left behind a node: those of its sides, where it is a split
abbrev pub left_behind : Slot → ℕ → List ℕ → List ℕ
left_behind (slot.Divided s) place left = place ∷ suc place ∷ left
left_behind (slot.Leaf leaf) place left = left

-- the references in preorder of the trees that stand at these places, one tree after another, as far as so many
abbrev pub in_preorder : (NodeRef → Slot) → List NodeRef → ℕ → List ℕ → List NodeRef
in_preorder node refs zero left = []
in_preorder node refs (suc n) [] = []
in_preorder node refs (suc n) (p ∷ left) = ref_at refs p ∷ in_preorder node refs n (left_behind (node (ref_at refs p)) (side_of (ref_at refs p)) left)
