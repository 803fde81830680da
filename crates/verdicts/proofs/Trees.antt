-- A tree passes where its preorder does, and a scan back from a node finds its way.
use Rattle.std.proofs.Common.{◌≡◌, ◌∙◌, ℕ, zero, suc, ◌+◌, List, ◌∷◌, ◌++◌, true, refl, sym, ap, Option, None, length, append_assoc, arith}
use Rattle.rational.specs.Rational.{Rational}
use Rattle.milp.specs.Problem.{Problem}
use Rattle.verdicts.specs.Certificate.{Version, Split, Side, Low, High, Derived, TreeNode, Branch, Empty, Bound}
use Rattle.verdicts.specs.Proves.{node_passes, below, Part, Test, first_failing, node_tests}
use Rattle.verdicts.specs.Preorder.{Tree, Divided, Refuted, Bounded, preorder, TreePasses, way_to, ways_to}

from_passing : (t : Test) (ts : List Test) → t.passes ≡ true → first_failing ts ≡ None → first_failing (t ∷ ts) ≡ None
from_passing t ts e h = rw e h

-- a tree that passes, and then what follows it
pub tree_then : (p : Problem) (v : Version) (goal : Option Rational) (ds : List Derived) (t : Tree) (sides : List Side) (places : List (List Side)) (rest : List TreeNode) → TreePasses p v goal ds sides t → ((k : ℕ) → first_failing (node_tests p v goal ds k places rest) ≡ None) → (k : ℕ) → first_failing (node_tests p v goal ds k (sides ∷ places) (preorder t ++ rest)) ≡ None
tree_then p v goal ds (Refuted w) sides places rest h g k = from_passing (record { part = Part.Node k; passes = node_passes p v goal ds sides (Empty w) }) (node_tests p v goal ds (k + 1) places rest) h (g (k + 1))
tree_then p v goal ds (Bounded w) sides places rest h g k = from_passing (record { part = Part.Node k; passes = node_passes p v goal ds sides (Bound w) }) (node_tests p v goal ds (k + 1) places rest) h (g (k + 1))
tree_then p v goal ds (Divided s low high) sides places rest h g k =
    let high_then = tree_then p v goal ds high (High s ∷ sides) places rest h.2 g in
    let low_then = tree_then p v goal ds low (Low s ∷ sides) ((High s ∷ sides) ∷ places) (preorder high ++ rest) h.1 high_then in
    let nodes = (preorder low ++ preorder high) ++ rest in
    let after : first_failing (node_tests p v goal ds (k + 1) ((Low s ∷ sides) ∷ (High s ∷ sides) ∷ places) nodes) ≡ None = rw (append_assoc (preorder low) (preorder high) rest) (low_then (k + 1)) in
    from_passing (record { part = Part.Node k; passes = node_passes p v goal ds sides (Branch s) }) (node_tests p v goal ds (k + 1) ((Low s ∷ sides) ∷ (High s ∷ sides) ∷ places) nodes) h.0 after

-- ---- the scan back

past_leaf : (node : TreeNode) (before : List TreeNode) (skip n : ℕ) → ((j : ℕ) → way_to (node ∷ before) j ≡ way_to before (suc j)) → ways_to (node ∷ before) skip n ≡ ways_to before (suc skip) n
past_leaf node before skip zero h = refl
past_leaf node before skip (suc n) h = rw (h skip, past_leaf node before (suc skip) n h) refl

past_branch : (s : Split) (before : List TreeNode) (skip n : ℕ) → ways_to (Branch s ∷ before) (suc (suc skip)) n ≡ ways_to before (suc skip) n
past_branch s before skip zero = refl
past_branch s before skip (suc n) = ap (λ w. way_to before (suc skip) ∷ w) (past_branch s before (suc skip) n)

-- the places that are open, after one more node
pub ways_step : (node : TreeNode) (before : List TreeNode) (n : ℕ) → below node (way_to before 0) ++ ways_to before 1 n ≡ ways_to (node ∷ before) 0 (length (below node (way_to before 0)) + n)
ways_step (Empty w) before n = sym (past_leaf (Empty w) before 0 n (λ j. refl)) ∙ ap (ways_to (Empty w ∷ before) 0) (omega arith)
ways_step (Bound w) before n = sym (past_leaf (Bound w) before 0 n (λ j. refl)) ∙ ap (ways_to (Bound w ∷ before) 0) (omega arith)
ways_step (Branch s) before n = ap (λ w. (Low s ∷ way_to before 0) ∷ (High s ∷ way_to before 0) ∷ w) (sym (past_branch s before 0 n)) ∙ ap (ways_to (Branch s ∷ before) 0) (two n)
  where
    two : (n : ℕ) → suc (suc n) ≡ 2 + n
    two n = omega arith
