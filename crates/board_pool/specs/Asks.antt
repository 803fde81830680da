-- What is answered to who asks for a leaf.
use Rattle.std.specs.Prelude.{ℕ, ◌≡◌, List, [], IfSome}
use Rattle.certificate.specs.declared.split.Side.{Side}
use Rattle.search_node.specs.Sides.{sides_of}
use Rattle.search_tree.specs.Tree.{sides_to}
use Rattle.search_tree.specs.Board.{Board}
use Rattle.search_tree.specs.Steps.{IsLease, IsIdle}
use Rattle.board_pool.specs.declared.asked.Asked.{Asked}
use Rattle.board_pool.specs.declared.asked.Asked.TheVariants.{Leased, Idle}

-- a leaf is leased, and its node told, if there was memory for it; or no leaf is to be worked on
abbrev pub IsAsked : Board → ℕ → Asked → Board → Type 0
IsAsked b seat (Leased leaf) c = (way : List Side) × IsLease b seat way leaf.lease c × IfSome leaf.node (λ node. sides_of node.splits ≡ sides_to c.tree way [])
IsAsked b seat (Idle count) c = IsIdle b seat count c
