-- The nodes of a tree, one after another.
use Rattle.std.proofs.Common.{◌≡◌, ◌∙◌, ℕ, zero, suc, ◌+◌, ◌<◌, ◌≤◌, List, [], ◌∷◌, ◌++◌, length, take, drop, reverse, get_or, append_assoc, append-nil, drop_of_length-le, refl, sym, ap, arith, add-one}
use Rattle.std.specs.Prelude.{IsTrue}
use Rattle.std.specs.List.{AllByRecursion}
use Rattle.milp.specs.Problem.{Problem}
use Rattle.verdicts.specs.Certificate.{TreeNode, Branch, Empty, Bound, Side}
use Rattle.verdicts.specs.Proves.{below}
use Rattle.verdicts.specs.Preorder.{way_to, ways_to}
use Rattle.verdicts.proofs.Laws.{ways_step}
use Rattle.verdicts.specs.Migrated.{migrated_node, migrated_nodes}
use Rattle.certificate.specs.Written.{open_after, fills, is_tree, IsOfOne}
use Rattle.certificate.specs.Ways.{way}
use Rattle.certificate.proofs.Laws.{back}
use Rattle.migration.specs.Nodes.{nodes_behind}

opened : (node : TreeNode) (sides : List Side) (m : ℕ) → open_after node m ≡ length (below node sides) + m
opened (Branch s) sides m = omega arith
opened (Empty w) sides m = omega arith
opened (Bound w) sides m = omega arith

-- nodes that fill the open places are migrated one after another
all_behind : (p : Problem) (n : ℕ) (before nodes : List TreeNode) → IsTrue (fills n nodes) → migrated_nodes p (ways_to before 0 n) nodes ≡ nodes_behind p before nodes
all_behind p zero before [] h = refl
all_behind p zero before (node ∷ nodes) h = cc
all_behind p (suc m) before [] h = cc
all_behind p (suc m) before (node ∷ nodes) h =
    let next : below node (way_to before 0) ++ ways_to before 1 m ≡ ways_to (node ∷ before) 0 (open_after node m) = ways_step node before m ∙ ap (ways_to (node ∷ before) 0) (sym (opened node (way_to before 0) m)) in
    ap (λ ps. migrated_node p (way_to before 0) node ∷ migrated_nodes p ps nodes) next ∙ ap (λ ns. migrated_node p (way_to before 0) node ∷ ns) (all_behind p (open_after node m) (node ∷ before) nodes h)

pub tree_behind : (p : Problem) (nodes made : List TreeNode) → IsTrue (is_tree nodes) → made ≡ nodes_behind p [] nodes → made ≡ migrated_nodes p ([] ∷ []) nodes
tree_behind p nodes made h e = e ∙ sym (all_behind p 1 [] nodes h)

same_opened : (p : Problem) (sides : List Side) (node : TreeNode) (m : ℕ) → open_after (migrated_node p sides node) m ≡ open_after node m
same_opened p sides (Branch s) m = refl
same_opened p sides (Empty w) m = refl
same_opened p sides (Bound w) m = refl

fill : (p : Problem) (n : ℕ) (before nodes : List TreeNode) → fills n (nodes_behind p before nodes) ≡ fills n nodes
fill p zero before [] = refl
fill p zero before (node ∷ nodes) = refl
fill p (suc m) before [] = refl
fill p (suc m) before (node ∷ nodes) = ap (λ k. fills k (nodes_behind p (node ∷ before) nodes)) (same_opened p (way_to before 0) node m) ∙ fill p (open_after node m) (node ∷ before) nodes

-- and are a tree again
pub tree_again : (p : Problem) (nodes made : List TreeNode) → IsTrue (is_tree nodes) → made ≡ nodes_behind p [] nodes → IsTrue (is_tree made)
tree_again p nodes made h e = ap is_tree e ∙ fill p 1 [] nodes ∙ h

more_left : (nodes : List TreeNode) (k : ℕ) (node : TreeNode) → k < length nodes → node ≡ get_or nodes k node → drop k nodes ≡ node ∷ drop (suc k) nodes
more_left [] k node l e = absurd (omega arith)
more_left (x ∷ xs) zero node l e = ap (λ y. y ∷ xs) (sym e)
more_left (x ∷ xs) (suc k) node l e = more_left xs k node (omega arith) e

-- one more node
pub one_behind : (p : Problem) (nodes : List TreeNode) (k : ℕ) (node : TreeNode) (before after all : List TreeNode) → k < length nodes → node ≡ get_or nodes k node → before ++ nodes_behind p (reverse (take k nodes)) (drop k nodes) ≡ all → after ≡ before ++ migrated_node p (way nodes k) node ∷ [] → after ++ nodes_behind p (reverse (take (k + 1) nodes)) (drop (k + 1) nodes) ≡ all
one_behind p nodes k node before after all l e inv made =
    let past : reverse (take (k + 1) nodes) ≡ node ∷ reverse (take k nodes) = rw (add-one k) (back nodes k node l e) in
    let left : drop (k + 1) nodes ≡ drop (suc k) nodes = rw (add-one k) refl in
    let rest : List TreeNode = nodes_behind p (node ∷ reverse (take k nodes)) (drop (suc k) nodes) in
    let here : nodes_behind p (reverse (take k nodes)) (drop k nodes) ≡ migrated_node p (way nodes k) node ∷ rest = ap (nodes_behind p (reverse (take k nodes))) (more_left nodes k node l e) in
    ap (λ xs. xs ++ nodes_behind p (reverse (take (k + 1) nodes)) (drop (k + 1) nodes)) made
    ∙ ap (λ xs. (before ++ migrated_node p (way nodes k) node ∷ []) ++ nodes_behind p xs (drop (k + 1) nodes)) past
    ∙ ap (λ xs. (before ++ migrated_node p (way nodes k) node ∷ []) ++ nodes_behind p (node ∷ reverse (take k nodes)) xs) left
    ∙ append_assoc before (migrated_node p (way nodes k) node ∷ []) rest
    ∙ sym (ap (λ xs. before ++ xs) here) ∙ inv

-- each node of version 1 is one
pub node_of_one : (nodes : List TreeNode) (k : ℕ) (node : TreeNode) → AllByRecursion IsOfOne nodes → k < length nodes → node ≡ get_or nodes k node → IsOfOne node
node_of_one [] k node h l e = absurd (omega arith)
node_of_one (x ∷ xs) zero node h l e = rw e h.0
node_of_one (x ∷ xs) (suc k) node h l e = node_of_one xs k node h.1 (omega arith) e

-- nothing is left
pub none_behind : (p : Problem) (nodes : List TreeNode) (k : ℕ) (made all : List TreeNode) → length nodes ≤ k → made ++ nodes_behind p (reverse (take k nodes)) (drop k nodes) ≡ all → made ≡ all
none_behind p nodes k made all l inv =
    let none : drop k nodes ≡ [] = drop_of_length-le nodes l in
    sym (append-nil made) ∙ sym (ap (λ (xs : List TreeNode). made ++ nodes_behind p (reverse (take k nodes)) xs) none) ∙ inv
