-- Partial trees whose nodes are made of those of others, each of one, with as many places below it.
use Rattle.std.proofs.Common.{◌≡◌, ◌∙◌, ℕ, zero, suc, ◌+◌, ◌≤◌, List, [], ◌∷◌, ◌++◌, length, map, drop, slice_get, Some, append_assoc, append-nil, drop_of_length-le, refl, sym, ap}
use Rattle.std.specs.Prelude.{IsTrue}
use Rattle.std.specs.List.{AllByRecursion}
use Rattle.std.proofs.lemmas.List.{drop_more}
use Rattle.std.proofs.lemmas.Option.{slice_get_within, get_or_from_slice_get}
use Rattle.verdicts.specs.Certificate.{TreeNode}
use Rattle.certificate.specs.Written.{open_after, fills}
use Rattle.partial_certificate.specs.Partial.{PartialNode, Done, Todo, shape}
use Rattle.partial_certificate.specs.Written.{is_whole}
use Rattle.row_columns.specs.Partials.{on_done}

-- ---- node by node

next : (nodes : List PartialNode) (k : ℕ) (node : PartialNode) → slice_get nodes k ≡ Some node → drop k nodes ≡ node ∷ drop (k + 1) nodes
next nodes k node is = drop_more nodes k node (slice_get_within nodes k node is) ∙ ap (λ (x : PartialNode). x ∷ drop (k + 1) nodes) (get_or_from_slice_get nodes k node node is)

pub one_more : (f : PartialNode → PartialNode) (nodes : List PartialNode) (k : ℕ) (node : PartialNode) (made more all : List PartialNode) → slice_get nodes k ≡ Some node → more ≡ made ++ f node ∷ [] → made ++ map f (drop k nodes) ≡ all → more ++ map f (drop (k + 1) nodes) ≡ all
one_more f nodes k node made more all is e left =
    ap (λ (xs : List PartialNode). xs ++ map f (drop (k + 1) nodes)) e ∙ append_assoc made (f node ∷ []) (map f (drop (k + 1) nodes))
    ∙ sym (ap (λ (xs : List PartialNode). made ++ map f xs) (next nodes k node is)) ∙ left

pub all_made : (f : PartialNode → PartialNode) (nodes : List PartialNode) (k : ℕ) (made : List PartialNode) → length nodes ≤ k → made ++ map f (drop k nodes) ≡ map f nodes → made ≡ map f nodes
all_made f nodes k made l left = sym (append-nil made) ∙ sym (ap (λ (xs : List PartialNode). made ++ map f xs) (drop_of_length-le nodes l)) ∙ left

pub node_at : (P : PartialNode → Type 0) (nodes : List PartialNode) (k : ℕ) (node : PartialNode) → AllByRecursion P nodes → slice_get nodes k ≡ Some node → P node
node_at P [] k node h is = cc
node_at P (x ∷ xs) zero node h is = go x node h.0 is
  where
    go : (x node : PartialNode) → P x → Some x ≡ Some node → P node
    go x node h e = let same : x ≡ node = cc in rw (← same) h
node_at P (x ∷ xs) (suc k) node h is = node_at P xs k node h.1 is

-- ---- a tree is one again

module _ (f : TreeNode → TreeNode) (same_opened : (node : TreeNode) (m : ℕ) → open_after (f node) m ≡ open_after node m) where
  opened_again : (node : PartialNode) (m : ℕ) → open_after (shape (on_done f node)) m ≡ open_after (shape node) m
  opened_again (Done node) m = same_opened node m
  opened_again Todo m = refl

  fill : (n : ℕ) (nodes : List PartialNode) → fills n (map shape (map (on_done f) nodes)) ≡ fills n (map shape nodes)
  fill zero [] = refl
  fill zero (node ∷ nodes) = refl
  fill (suc m) [] = refl
  fill (suc m) (node ∷ nodes) = ap (λ k. fills k (map shape (map (on_done f) nodes))) (opened_again node m) ∙ fill (open_after (shape node) m) nodes

  pub whole_made : (nodes made : List PartialNode) → made ≡ map (on_done f) nodes → IsTrue (is_whole nodes) → IsTrue (is_whole made)
  whole_made nodes made e h = ap is_whole e ∙ fill 1 nodes ∙ h
