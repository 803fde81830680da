-- Trees in preorder, as the program keeps them.
use Rattle.std.specs.Prelude.{ℕ, suc, ◌+◌, ◌≡◌, List, [], ◌∷◌, ◌++◌, length, get_or}
use Rattle.std.proofs.Common.{refl, sym, ap, ◌∙◌, append_assoc, append-nil}
use Rattle.std.specs.Coded.{Coded, code_by, coded_list}
use Rattle.verdicts.specs.Certificate.{Split}
use Rattle.certificate.specs.declared.split.Side.{Side}
use Rattle.certificate.specs.declared.split.Side.TheVariants.{Low, High}
use Rattle.search_tree.specs.declared.leaf.Leaf.TheVariants.{Todo}
use Rattle.search_tree.specs.declared.leaf.Slot.{Slot}
use Rattle.search_tree.specs.declared.leaf.Slot.TheVariants as slot
use Rattle.search_tree.specs.contracts.leaf.Slot as slot_contract
use Rattle.search_tree.specs.Tree.{Tree, Divided, AtLeaf}

-- the tree in preorder
abbrev pub slots_of : Tree → List Slot
slots_of (Divided s low high) = slot.Divided s ∷ (slots_of low ++ slots_of high)
slots_of (AtLeaf leaf) = slot.Leaf leaf ∷ []

-- the number of a place in the preorder
abbrev pub place_of : Tree → List Side → ℕ
place_of t [] = 0
place_of (AtLeaf leaf) (side ∷ way) = 0
place_of (Divided s low high) (Low ∷ way) = suc (place_of low way)
place_of (Divided s low high) (High ∷ way) = suc (length (slots_of low) + place_of high way)

-- the first two trees as the sides of a split
abbrev pub joined : Split → List Tree → List Tree
joined s [] = []
joined s (low ∷ []) = []
joined s (low ∷ high ∷ trees) = Divided s low high ∷ trees

-- the trees whose preorders stand one after the other
abbrev pub trees_of : List Slot → List Tree
trees_of [] = []
trees_of (slot.Divided s ∷ slots) = joined s (trees_of slots)
trees_of (slot.Leaf leaf ∷ slots) = AtLeaf leaf ∷ trees_of slots

-- the tree with this preorder
abbrev pub tree_of : List Slot → Tree
tree_of slots = get_or (trees_of slots) 0 (AtLeaf (Todo tt))

-- these are the preorder of one tree
abbrev pub AreOneTree : List Slot → Type 0
AreOneTree slots = slots ≡ slots_of (tree_of slots)

-- ---- the preorder gives its tree back

trees_then : (t : Tree) (rest : List Slot) → trees_of (slots_of t ++ rest) ≡ t ∷ trees_of rest
trees_then (AtLeaf leaf) rest = refl
trees_then (Divided s low high) rest =
    ap (λ slots. joined s (trees_of slots)) (append_assoc (slots_of low) (slots_of high) rest)
    ∙ ap (joined s) (trees_then low (slots_of high ++ rest) ∙ ap (λ trees. low ∷ trees) (trees_then high rest))

pub tree_again : (t : Tree) → tree_of (slots_of t) ≡ t
tree_again t = ap tree_of (sym (append-nil (slots_of t))) ∙ ap (λ trees. get_or trees 0 (AtLeaf (Todo tt))) (trees_then t [])

-- a tree is stored as its preorder
abbrev pub tree_code : Coded Tree
tree_code = code_by (List Slot) (coded_list slot_contract.the_row.coded) slots_of tree_of tree_again
