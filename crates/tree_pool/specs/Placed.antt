-- Where the nodes of a tree come to stand that is put in the place of a leaf: its root stands there, and the sides of its splits behind
-- all other nodes.
use Rattle.std.specs.Prelude.{ℕ, suc, ◌+◌, ◌≡◌, List, [], ◌∷◌, ◌++◌, drop, length, set, Option, Some, None}
use Rattle.verdicts.specs.Certificate.{Split}
use Rattle.certificate.specs.declared.split.Side.TheVariants.{Low, High}
use Rattle.search_node.specs.declared.node.SplitTaken.{SplitTaken}
use Rattle.search_tree.specs.declared.leaf.Slot.{Slot}
use Rattle.search_tree.specs.declared.leaf.Slot.TheVariants as slot
use Rattle.search_tree.specs.Tree.{Tree, Divided, AtLeaf}
use Rattle.search_tree.specs.Slots.{slots_of}
use Rattle.tree_pool.specs.declared.refs.NodeRef.{NodeRef}
use Rattle.tree_pool.specs.declared.refs.NodeRef.TheVariants.{Again, Held, Forked}
use Rattle.tree_pool.specs.Paths.{path_at}

-- the references with those to the nodes of a tree in this place, whose preorder an entry holds from its node n on
abbrev pub refs_with : ℕ → ℕ → ℕ → Tree → List NodeRef → List NodeRef
refs_with entry n place (AtLeaf leaf) refs = set refs place (Held entry n)
refs_with entry n place (Divided s low high) refs =
    refs_with entry (suc n + length (slots_of low)) (suc (length refs)) high
    (refs_with entry (suc n) (length refs) low (set refs place (Forked entry n (length refs)) ++ Again ∷ Again ∷ []))

-- the paths with those of the sides of a split in this place
abbrev pub forked_at : ℕ → Split → List (List SplitTaken) → List (List SplitTaken)
forked_at place s paths = paths ++ (path_at paths place ++ record { split = s; side = Low } ∷ []) ∷ (path_at paths place ++ record { split = s; side = High } ∷ []) ∷ []

-- the paths with those of the nodes of a tree in this place
abbrev pub paths_with : ℕ → Tree → List (List SplitTaken) → List (List SplitTaken)
paths_with place (AtLeaf leaf) paths = paths
paths_with place (Divided s low high) paths = paths_with (suc (length paths)) high (paths_with (length paths) low (forked_at place s paths))

-- ---- a tree within a preorder

-- from its node n on the preorder is that of this tree, and what comes behind it
pub record Begins (slots : List Slot) (n : ℕ) (t : Tree) : Type 0 where
  pub rest : List Slot
  pub is : drop n slots ≡ slots_of t ++ rest

-- the split of a node, where it is one
abbrev pub split_by : Slot → Option Split
split_by (slot.Divided s) = Some s
split_by (slot.Leaf leaf) = None

abbrev pub split_in : Option Slot → Option Split
split_in None = None
split_in (Some x) = split_by x
