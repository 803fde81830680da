-- The text of a tree, node by node.
use Rattle.std.proofs.Common.{◌≡◌, ◌∙◌, ℕ, ◌+◌, List, ◌++◌, Some, drop, slice_get, append_assoc, sym, ap}
use Rattle.partial_certificate.specs.Partial.{PartialNode}
use Rattle.partial_certificate.specs.Text.{partial_tree_text, partial_node_text}
use Rattle.partial_certificate.proofs.Steps.{next}

pub written : (nodes : List PartialNode) (k : ℕ) (node : PartialNode) (text more : List ℕ) → slice_get nodes k ≡ Some node → partial_tree_text nodes ≡ text ++ partial_tree_text (drop k nodes) → more ≡ text ++ partial_node_text node → partial_tree_text nodes ≡ more ++ partial_tree_text (drop (k + 1) nodes)
written nodes k node text more is left e =
    left ∙ ap (λ (xs : List PartialNode). text ++ partial_tree_text xs) (next nodes k node is)
    ∙ sym (append_assoc text (partial_node_text node) (partial_tree_text (drop (k + 1) nodes)))
    ∙ ap (λ (t : List ℕ). t ++ partial_tree_text (drop (k + 1) nodes)) (sym e)
