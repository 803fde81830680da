-- The closed leaves and the branches of a tree in preorder.
use Rattle.std.proofs.Common.{◌≡◌, ◌∙◌, ℕ, ◌+◌, ◌<◌, List, [], ◌∷◌, ◌++◌, length, drop, get_or, Option, None, refl, sym, ap, subst, append_assoc, append-nil}
use Rattle.std.proofs.lemmas.List.{drop_more}
use Rattle.verdicts.specs.Certificate.{TreeNode, Branch}
use Rattle.search_tree.specs.declared.event.Entry.{Entry}
use Rattle.search_tree.specs.declared.leaf.Slot.{Slot}
use Rattle.search_tree.specs.Tree.{Tree, Divided, AtLeaf}
use Rattle.search_tree.specs.Slots.{slots_of}
use Rattle.search_tree.specs.Kept.{closed_node}
use Rattle.search_tree.specs.Finished.{nodes_of, one_or_none}
use Rattle.tree_pool.specs.declared.refs.NodeRef.{NodeRef}
use Rattle.tree_pool.specs.LogNodes.{node_at, nodes_in}
use Rattle.tree_pool.specs.Ledger.{closed_in, closed_slots}

closed_both : (xs ys : List Slot) → closed_slots (xs ++ ys) ≡ closed_slots xs ++ closed_slots ys
closed_both [] ys = refl
closed_both (x ∷ xs) ys = ap (λ nodes. one_or_none (closed_in x) ++ nodes) (closed_both xs ys) ∙ sym (append_assoc (one_or_none (closed_in x)) (closed_slots xs) (closed_slots ys))

closed_is : (t : Tree) → closed_slots (slots_of t) ≡ nodes_of t
closed_is (AtLeaf leaf) = append-nil (one_or_none (closed_node leaf))
closed_is (Divided s low high) = ap (λ nodes. Branch s ∷ nodes) (closed_both (slots_of low) (slots_of high) ∙ ap (λ nodes. nodes ++ closed_slots (slots_of high)) (closed_is low) ∙ ap (λ nodes. nodes_of low ++ nodes) (closed_is high))

pub closed_nodes : (slots : List Slot) (t : Tree) → slots ≡ slots_of t → closed_slots slots ≡ nodes_of t
closed_nodes slots t are = ap closed_slots are ∙ closed_is t

-- ---- node by node

pub none_added : (t : List TreeNode) (o : Option TreeNode) → o ≡ None → t ≡ t ++ one_or_none o
none_added t o e = let P : Option TreeNode → Type 0 = λ a. t ≡ t ++ one_or_none a in subst P (sym e) (sym (append-nil t))

pub closed_more : (log : List Entry) (nodes : List NodeRef) (i : ℕ) (other : NodeRef) (t u all : List TreeNode) → i < length nodes → u ≡ t ++ one_or_none (closed_in (node_at log (get_or nodes i other))) → t ++ closed_slots (nodes_in log (drop i nodes)) ≡ all
    → u ++ closed_slots (nodes_in log (drop (i + 1) nodes)) ≡ all
closed_more log nodes i other t u all within e h =
    let rest : List TreeNode = closed_slots (nodes_in log (drop (i + 1) nodes)) in
    let node : NodeRef = get_or nodes i other in
    ap (λ (v : List TreeNode). v ++ rest) e ∙ append_assoc t (one_or_none (closed_in (node_at log node))) rest ∙ sym (ap (λ (refs : List NodeRef). t ++ closed_slots (nodes_in log refs)) (drop_more nodes i other within)) ∙ h
