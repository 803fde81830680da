-- Boards whose leaves are all closed, and their certificates.
use Rattle.std.specs.Prelude.{List, [], ◌∷◌, ◌++◌, length, Option, Some, None}
use Rattle.rational.specs.Rational.{Rational}
use Rattle.verdicts.specs.Certificate.{Two, Verdict, Optimal, Infeasible, TreeNode, Branch, Certificate}
use Rattle.search_tree.specs.Tree.{Tree, Divided, AtLeaf, AllLeaves}
use Rattle.search_tree.specs.Board.{Board, value_of}
use Rattle.search_tree.specs.Kept.{closed_node}

abbrev pub IsThere : Option TreeNode → Type 0
IsThere None = ⊥
IsThere (Some node) = Unit {0}

-- each leaf is closed
abbrev pub IsFinished : Board → Type 0
IsFinished b = AllLeaves (λ sides leaf. IsThere (closed_node leaf)) [] b.tree

abbrev pub one_or_none : Option TreeNode → List TreeNode
one_or_none None = []
one_or_none (Some node) = node ∷ []

-- the tree in preorder, as a certificate has it
abbrev pub nodes_of : Tree → List TreeNode
nodes_of (Divided s low high) = Branch s ∷ (nodes_of low ++ nodes_of high)
nodes_of (AtLeaf leaf) = one_or_none (closed_node leaf)

-- optimal where there is a best point, else infeasible
abbrev pub verdict_of : Option (List Rational) → Verdict
verdict_of None = Infeasible
verdict_of (Some x) = Optimal

abbrev pub certificate_of : Board → Certificate
certificate_of b = record {
  version = Two;
  rows = length b.problem.rows;
  columns = length b.problem.columns;
  verdict = verdict_of b.best;
  value = value_of b;
  point = b.best;
  ray = None;
  derived = b.cuts;
  tree = nodes_of b.tree;
}
