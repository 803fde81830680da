-- The way from the root of a tree to a node, and its last turn.
use Rattle.std.specs.Prelude.{ℕ, ◌<◌, ◌≡◌, List, [], ◌∷◌, take, reverse, Option, Some, None}
use Rattle.verdicts.specs.Certificate.{TreeNode, Split, Side as SideOf}
use Rattle.verdicts.specs.Certificate as of
use Rattle.verdicts.specs.Preorder.{way_to}
use Rattle.certificate.specs.declared.split.Side.{Side}
use Rattle.certificate.specs.declared.split.Side.TheVariants.{Low, High}
use Rattle.certificate.specs.declared.split.Turn.{Turn}

-- a side of a split
abbrev pub side_of : Split → Side → SideOf
side_of s Low = of.Low s
side_of s High = of.High s

-- the splits on the way to the node at this place of the preorder, the latest first
abbrev pub way : List TreeNode → ℕ → List SideOf
way nodes place = way_to (reverse (take place nodes)) 0

-- the last turn on the way to a place, and the place of the branch where it is taken; none at the root
abbrev pub IsLastTurn : List TreeNode → ℕ → Option Turn → Type 0
IsLastTurn nodes place None = way nodes place ≡ []
IsLastTurn nodes place (Some t) = (t.place < place) × (way nodes place ≡ side_of t.split.now t.side ∷ way nodes t.place)
