-- A tree's preorder.
use Rattle.std.proofs.Common.{◌≡◌, ◌∙◌, ◌+◌, ◌*◌, List, ◌∷◌, ◌++◌, length, length-append, refl, sym, ap, arith}
use Rattle.verdicts.specs.Certificate.{Split}
use Rattle.search_tree.specs.declared.leaf.Slot.{Slot}
use Rattle.search_tree.specs.declared.leaf.Slot.TheVariants as slot
use Rattle.search_tree.specs.Tree.{Tree, Divided, AtLeaf, made}
use Rattle.search_tree.specs.Slots.{slots_of, tree_of, tree_again, AreOneTree}

-- splits are half of the nodes
pub nodes_count : (t : Tree) → length (slots_of t) ≡ made t * 2 + 1
nodes_count (AtLeaf leaf) = refl
nodes_count (Divided s low high) = let l = nodes_count low in let h = nodes_count high in let both = length-append (slots_of low) (slots_of high) in omega arith

-- the preorders of two trees behind a split are the preorder of the tree of all three
pub of_sides : (s : Split) (low high : Tree) (lows highs : List Slot) → AreOneTree lows → tree_of lows ≡ low → AreOneTree highs → tree_of highs ≡ high → slot.Divided s ∷ (lows ++ highs) ≡ slots_of (Divided s low high)
of_sides s low high lows highs h is_low k is_high = ap (λ xs. slot.Divided s ∷ (xs ++ highs)) (h ∙ ap slots_of is_low) ∙ ap (λ xs. slot.Divided s ∷ (slots_of low ++ xs)) (k ∙ ap slots_of is_high)

pub tree_from : (t : Tree) (slots : List Slot) → slots ≡ slots_of t → tree_of slots ≡ t
tree_from t slots h = ap tree_of h ∙ tree_again t

pub one_tree : (t : Tree) (slots : List Slot) → slots ≡ slots_of t → AreOneTree slots
one_tree t slots h = h ∙ ap slots_of (sym (tree_from t slots h))
