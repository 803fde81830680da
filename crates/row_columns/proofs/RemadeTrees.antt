-- Trees whose nodes are made of those of others, each of one, with as many places below it.
use Rattle.std.proofs.Common.{◌≡◌, ◌∙◌, ℕ, zero, suc, ◌≤◌, List, [], ◌∷◌, ◌++◌, length, map, drop, append-nil, drop_of_length-le, refl, sym, ap}
use Rattle.std.specs.Prelude.{IsTrue}
use Rattle.verdicts.specs.Certificate.{TreeNode}
use Rattle.certificate.specs.Values.{node_of}
use Rattle.certificate.specs.Written.{open_after, fills, is_tree}
use Rattle.certificate.specs.declared.tree.TreeNode.{TreeNode as Node}

abbrev pub remade_nodes : (TreeNode → TreeNode) → List Node → List TreeNode
remade_nodes f nodes = map f (map node_of nodes)

module _ (f : TreeNode → TreeNode) (same_opened : (node : TreeNode) (m : ℕ) → open_after (f node) m ≡ open_after node m) where
  fill : (n : ℕ) (nodes : List TreeNode) → fills n (map f nodes) ≡ fills n nodes
  fill zero [] = refl
  fill zero (node ∷ nodes) = refl
  fill (suc m) [] = refl
  fill (suc m) (node ∷ nodes) = ap (λ k. fills k (map f nodes)) (same_opened node m) ∙ fill (open_after node m) nodes

  all_made : (tree : List TreeNode) (nodes : List Node) (k : ℕ) (made : List TreeNode) → map node_of nodes ≡ tree → length nodes ≤ k → made ++ remade_nodes f (drop k nodes) ≡ remade_nodes f nodes → made ≡ map f tree
  all_made tree nodes k made is l left =
      let none : drop k nodes ≡ [] = drop_of_length-le nodes l in
      sym (append-nil made) ∙ sym (ap (λ (ns : List Node). made ++ remade_nodes f ns) none) ∙ left ∙ ap (map f) is

  -- a tree is one again
  pub tree_made : (tree : List TreeNode) (nodes : List Node) (k : ℕ) (made : List TreeNode) → map node_of nodes ≡ tree → length nodes ≤ k → made ++ remade_nodes f (drop k nodes) ≡ remade_nodes f nodes → IsTrue (is_tree tree) → IsTrue (is_tree made)
  tree_made tree nodes k made is l left h = ap is_tree (all_made tree nodes k made is l left) ∙ fill 1 tree ∙ h
