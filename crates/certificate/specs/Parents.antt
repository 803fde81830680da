-- The branch above a place of a tree.
use Rattle.std.specs.Prelude.{ℕ, zero, suc, ◌<◌, ◌≡◌, List, [], ◌∷◌, length, take, reverse, get_or, Option, Some, None}
use Rattle.verdicts.specs.Certificate.{Split, TreeNode, Branch, Empty, Bound}
use Rattle.certificate.specs.declared.split.Side.TheVariants.{Low, High}
use Rattle.certificate.specs.declared.split.Turn.{Turn}
use Rattle.certificate.specs.declared.tree.Parent.{Parent}

-- the branch above the place that is filled after `skip` more subtrees, from the nodes before, the latest first
abbrev pub parent_to : List TreeNode → ℕ → Option Parent
parent_to [] skip = None
parent_to (Empty w ∷ before) skip = parent_to before (suc skip)
parent_to (Bound w ∷ before) skip = parent_to before (suc skip)
parent_to (Branch s ∷ before) zero = Some (record { place = length before; side = Low })
parent_to (Branch s ∷ before) (suc zero) = Some (record { place = length before; side = High })
parent_to (Branch s ∷ before) (suc (suc skip)) = parent_to before (suc skip)

-- the branch above this place of the preorder
abbrev pub parent_of : List TreeNode → ℕ → Option Parent
parent_of nodes place = parent_to (reverse (take place nodes)) 0

-- the branch above each node
pub record AreParents (nodes : List TreeNode) (parents : List (Option Parent)) : Type 0 where
  pub count : length parents ≡ length nodes
  pub each : (place : ℕ) → place < length nodes → get_or parents place None ≡ parent_of nodes place

-- the turn to the side of a branch that is above
pub record IsTurnOf (split : Split) (p : Parent) (t : Turn) : Type 0 where
  pub place : t.place ≡ p.place
  pub split_is : t.split.now ≡ split
  pub side : t.side ≡ p.side

-- the turn to this side of a node, which is a branch
abbrev pub IsTurnUnder : TreeNode → Parent → Option Turn → Type 0
IsTurnUnder (Branch s) p None = ⊥
IsTurnUnder (Branch s) p (Some t) = IsTurnOf s p t
IsTurnUnder (Empty w) p t = t ≡ None
IsTurnUnder (Bound w) p t = t ≡ None
