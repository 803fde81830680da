-- Two other views of a tree in preorder: as a tree, and by a scan back from a node.
use Rattle.std.specs.Prelude.{ℕ, zero, suc, List, [], ◌∷◌, ◌++◌, Option, IsTrue}
use Rattle.rational.specs.Rational.{Rational}
use Rattle.milp.specs.Problem.{Problem}
use Rattle.verdicts.specs.Certificate.{Version, Split, Side, Low, High, Weights, Derived, TreeNode, Branch, Empty, Bound}
use Rattle.verdicts.specs.Proves.{node_passes}

pub data Tree : Type 0 where
  Divided : Split → Tree → Tree → Tree
  Refuted : Weights → Tree
  Bounded : Weights → Tree

abbrev pub preorder : Tree → List TreeNode
preorder (Divided s low high) = Branch s ∷ (preorder low ++ preorder high)
preorder (Refuted w) = Empty w ∷ []
preorder (Bounded w) = Bound w ∷ []

-- each node of the tree passes under the splits on its way
abbrev pub TreePasses : Problem → Version → Option Rational → List Derived → List Side → Tree → Type 0
TreePasses p v goal ds sides (Divided s low high) = IsTrue (node_passes p v goal ds sides (Branch s)) × TreePasses p v goal ds (Low s ∷ sides) low × TreePasses p v goal ds (High s ∷ sides) high
TreePasses p v goal ds sides (Refuted w) = IsTrue (node_passes p v goal ds sides (Empty w))
TreePasses p v goal ds sides (Bounded w) = IsTrue (node_passes p v goal ds sides (Bound w))

-- the splits on the way to the place that is filled after `skip` more subtrees, from the nodes before, the latest first
abbrev pub way_to : List TreeNode → ℕ → List Side
way_to [] skip = []
way_to (Empty w ∷ before) skip = way_to before (suc skip)
way_to (Bound w ∷ before) skip = way_to before (suc skip)
way_to (Branch s ∷ before) zero = Low s ∷ way_to before zero
way_to (Branch s ∷ before) (suc zero) = High s ∷ way_to before zero
way_to (Branch s ∷ before) (suc (suc skip)) = way_to before (suc skip)

-- the ways to the places from the skip-th on, n of them
abbrev pub ways_to : List TreeNode → ℕ → ℕ → List (List Side)
ways_to before skip zero = []
ways_to before skip (suc n) = way_to before skip ∷ ways_to before (suc skip) n
