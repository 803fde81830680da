-- How the code keeps a tree: the nodes of a certificate, and beside each whether it is a leaf that is left to do.
use Rattle.std.specs.Prelude.{◌≡◌, Bool, true, false, List, [], ◌∷◌}
use Rattle.verdicts.specs.Certificate.{TreeNode, Empty}
use Rattle.partial_certificate.specs.Partial.{PartialNode, Done, Todo, no_weights}

abbrev pub marked_node : Bool → TreeNode → PartialNode
marked_node true node = Todo
marked_node false node = Done node

abbrev pub marked : List Bool → List TreeNode → List PartialNode
marked [] nodes = []
marked (b ∷ bs) [] = []
marked (b ∷ bs) (node ∷ nodes) = marked_node b node ∷ marked bs nodes

-- a mark for each node, and a leaf without weights where one is left to do
abbrev pub AreMarks : List Bool → List TreeNode → Type 0
AreMarks [] [] = Unit {0}
AreMarks [] (node ∷ nodes) = ⊥
AreMarks (b ∷ bs) [] = ⊥
AreMarks (true ∷ bs) (node ∷ nodes) = (node ≡ Empty no_weights) × AreMarks bs nodes
AreMarks (false ∷ bs) (node ∷ nodes) = AreMarks bs nodes
