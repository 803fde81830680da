-- The nodes of a tree by splits of columns.
use Rattle.std.proofs.Common.{◌≡◌, ℕ, zero, suc, ◌<◌, List, [], ◌∷◌, length, map, get_or, refl, sym, subst, arith}
use Rattle.std.specs.List.{AllByRecursion}
use Rattle.milp.specs.Form.{Entry}
use Rattle.milp.specs.Problem.{Problem}
use Rattle.verdicts.specs.Certificate.{TreeNode, Branch, Empty, Bound}
use Rattle.certificate.specs.Values.{node_of}
use Rattle.certificate.specs.Written.{open_after}
use Rattle.certificate.specs.declared.tree.TreeNode.{TreeNode as Node}
use Rattle.row_columns.specs.Restored.{restored_node, IsNodeOfColumns}

pub same_opened : (p : Problem) (forms : List (List Entry)) (node : TreeNode) (m : ℕ) → open_after (restored_node p forms node) m ≡ open_after node m
same_opened p forms (Branch s) m = refl
same_opened p forms (Empty w) m = refl
same_opened p forms (Bound w) m = refl

node_at : (nodes : List Node) (k : ℕ) (node : Node) → AllByRecursion IsNodeOfColumns (map node_of nodes) → k < length nodes → node ≡ get_or nodes k node → IsNodeOfColumns (node_of node)
node_at [] k node h l e = absurd (omega arith)
node_at (x ∷ xs) zero node h l e = subst (λ y. IsNodeOfColumns (node_of y)) (sym e) h.0
node_at (x ∷ xs) (suc k) node h l e = node_at xs k node h.1 (omega arith) e

-- each node of a tree by splits of columns is one
pub of_columns : (tree : List TreeNode) (nodes : List Node) (k : ℕ) (node : Node) → AllByRecursion IsNodeOfColumns tree → map node_of nodes ≡ tree → k < length nodes → node ≡ get_or nodes k node → IsNodeOfColumns (node_of node)
of_columns tree nodes k node h is l e = node_at nodes k node (subst (λ ns. AllByRecursion IsNodeOfColumns ns) (sym is) h) l e
