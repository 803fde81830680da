-- What a board has shown so far: its partial certificate.
use Rattle.std.specs.Prelude.{List, [], ◌∷◌, ◌++◌, length, map, Option, Some, None, option_map}
use Rattle.rational.specs.Rational.{Rational}
use Rattle.milp.specs.Problem.{Problem}
use Rattle.milp.specs.Points.{objective_value}
use Rattle.verdicts.specs.Certificate.{TreeNode, Branch}
use Rattle.partial_certificate.specs.Partial.{Best, PartialNode, Done, Todo, Partial}
use Rattle.search_tree.specs.declared.leaf.Slot.{Slot}
use Rattle.search_tree.specs.Tree.{Tree, Divided, AtLeaf}
use Rattle.search_tree.specs.Board.{Board}
use Rattle.search_tree.specs.Kept.{closed_node}
use Rattle.tree_pool.specs.Ledger.{closed_in}

-- a leaf that is not closed is left to do
abbrev pub done_or_todo : Option TreeNode → PartialNode
done_or_todo None = Todo
done_or_todo (Some node) = Done node

-- the tree in preorder
abbrev pub shown_nodes : Tree → List PartialNode
shown_nodes (Divided s low high) = Done (Branch s) ∷ (shown_nodes low ++ shown_nodes high)
shown_nodes (AtLeaf leaf) = done_or_todo (closed_node leaf) ∷ []

-- a point with its value
abbrev pub reached : Problem → List Rational → Best
reached p x = record { point = x; value = objective_value p x }

abbrev pub shown_of : Board → Partial
shown_of b = record {
  rows = length b.problem.rows;
  columns = length b.problem.columns;
  best = option_map (reached b.problem) b.best;
  derived = b.cuts;
  tree = shown_nodes b.tree;
}

-- ---- as the code makes it

-- the nodes of a preorder
abbrev pub shown_slots : List Slot → List PartialNode
shown_slots slots = map (λ s. done_or_todo (closed_in s)) slots

-- a point with a value, where both are there
abbrev pub with_value : Option (List Rational) → Option Rational → Option Best
with_value None value = None
with_value (Some x) None = None
with_value (Some x) (Some v) = Some (record { point = x; value = v })
