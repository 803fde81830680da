-- A tree whose nodes are all closed.
use Rattle.std.proofs.Common.{◌≡◌, ◌∙◌, ℕ, zero, suc, ◌<◌, List, [], ◌∷◌, Bool, true, false, cond, length, refl, sym, ap, subst, Option, Some, None, is_some, arith}
use Rattle.verdicts.specs.Certificate.{TreeNode, Side as SideOf, Low as LowOf, High as HighOf}
use Rattle.certificate.specs.declared.split.Side.{Side}
use Rattle.certificate.specs.declared.split.Side.TheVariants.{Low, High}
use Rattle.search_node.specs.declared.node.SplitTaken.{SplitTaken}
use Rattle.search_tree.specs.declared.leaf.Leaf.{Leaf}
use Rattle.search_tree.specs.declared.leaf.Slot.{Slot}
use Rattle.search_tree.specs.declared.leaf.Slot.TheVariants as slot
use Rattle.search_tree.specs.declared.event.Entry.{Entry}
use Rattle.search_tree.specs.Tree.{Tree, Divided, AtLeaf, AllLeaves, at_place}
use Rattle.search_tree.specs.Kept.{closed_node}
use Rattle.search_tree.specs.Finished.{IsThere}
use Rattle.tree_pool.specs.declared.refs.NodeRef.{NodeRef}
use Rattle.tree_pool.specs.LogNodes.{node_at, nodes_in}
use Rattle.tree_pool.specs.Paths.{path_at}
use Rattle.tree_pool.specs.Standing.{way_of, ref_at, AreNodes}
use Rattle.tree_pool.specs.Ledger.{closed_in, are_closed}
use Rattle.tree_pool.specs.Places.{AreClosed}
use Rattle.tree_pool.proofs.Standing.{leaf_on}
use Rattle.tree_pool.proofs.Preorders.{from_places, root_at}

both_true : (t u : Bool) → cond t u false ≡ true → (t ≡ true) × (u ≡ true)
both_true true u h = (refl, h)
both_true false u h = cc

there : (o : Option TreeNode) → is_some o ≡ true → IsThere o
there None h = cc
there (Some node) h = tt

each_closed : (log : List Entry) (refs : List NodeRef) (p : ℕ) → are_closed (nodes_in log refs) ≡ true → p < length refs → is_some (closed_in (node_at log (ref_at refs p))) ≡ true
each_closed log [] p h less = absurd (omega arith)
each_closed log (r ∷ refs) zero h less = (both_true (is_some (closed_in (node_at log r))) (are_closed (nodes_in log refs)) h).0
each_closed log (r ∷ refs) (suc p) h less = each_closed log refs p (both_true (is_some (closed_in (node_at log r))) (are_closed (nodes_in log refs)) h).1 (omega arith)

pub nodes_closed : (log : List Entry) (t : Tree) (paths : List (List SplitTaken)) (refs : List NodeRef) → AreNodes (node_at log) t paths refs → are_closed (nodes_in log refs) ≡ true → AreClosed t
nodes_closed log t paths refs are h =
    from_places (node_at log) t paths refs are (λ leaf. IsThere (closed_node leaf)) (λ p leaf within is_leaf. there (closed_node leaf) (ap (λ x. is_some (closed_in x)) (sym is_leaf) ∙ each_closed log refs p h within)) t 0 [] (root_at (node_at log) t paths refs are)

-- a place where no closed node stands
record IsOpenAt (log : List Entry) (refs : List NodeRef) : Type 0 where
  pub place : ℕ
  pub within : place < length refs
  pub is_open : is_some (closed_in (node_at log (ref_at refs place))) ≡ false

some_open : (log : List Entry) (refs : List NodeRef) → are_closed (nodes_in log refs) ≡ false → IsOpenAt log refs
some_open log [] h = cc
some_open log (r ∷ refs) h = go (λ k. some_open log refs k) (is_some (closed_in (node_at log r))) refl h
  where
    next : IsOpenAt log refs → IsOpenAt log (r ∷ refs)
    next at = record { place = suc at.place; within = let l = at.within in omega arith; is_open = at.is_open }

    go : (are_closed (nodes_in log refs) ≡ false → IsOpenAt log refs) → (t : Bool) → is_some (closed_in (node_at log r)) ≡ t → cond t (are_closed (nodes_in log refs)) false ≡ false → IsOpenAt log (r ∷ refs)
    go further true e k = next (further k)
    go further false e k = record { place = zero; within = omega arith; is_open = e }

leaf_of_all : (P : Leaf → Type 0) (t : Tree) (way : List Side) (sides : List SideOf) (leaf : Leaf) → AllLeaves (λ sides leaf. P leaf) sides t → at_place t way ≡ Some (AtLeaf leaf) → P leaf
leaf_of_all P (AtLeaf l) [] sides leaf h e = at_leaf l leaf h e
  where
    at_leaf : (l leaf : Leaf) → P l → Some (AtLeaf l) ≡ Some (AtLeaf leaf) → P leaf
    at_leaf l leaf h e = let same : l ≡ leaf = cc in subst P same h
leaf_of_all P (AtLeaf l) (side ∷ way) sides leaf h e = cc
leaf_of_all P (Divided s low high) [] sides leaf h e = cc
leaf_of_all P (Divided s low high) (Low ∷ way) sides leaf h e = leaf_of_all P low way (LowOf s ∷ sides) leaf h.0 e
leaf_of_all P (Divided s low high) (High ∷ way) sides leaf h e = leaf_of_all P high way (HighOf s ∷ sides) leaf h.1 e

not_there : (o : Option TreeNode) → is_some o ≡ false → IsThere o → ⊥
not_there None h k = absurd k
not_there (Some node) h k = cc

pub closed_nodes_are : (log : List Entry) (t : Tree) (paths : List (List SplitTaken)) (refs : List NodeRef) → AreNodes (node_at log) t paths refs → are_closed (nodes_in log refs) ≡ false → ¬ (AreClosed t)
closed_nodes_are log t paths refs are h all = let at = some_open log refs h in go at (node_at log (ref_at refs at.place)) refl
  where
    go : (at : IsOpenAt log refs) (x : Slot) → node_at log (ref_at refs at.place) ≡ x → ⊥
    go at (slot.Divided s) e = let never : true ≡ false = ap (λ y. is_some (closed_in y)) (sym e) ∙ at.is_open in cc
    go at (slot.Leaf leaf) e = not_there (closed_node leaf) (ap (λ y. is_some (closed_in y)) (sym e) ∙ at.is_open) (leaf_of_all (λ l. IsThere (closed_node l)) t (way_of (path_at paths at.place)) [] leaf all (leaf_on (node_at log) t paths refs at.place leaf are at.within e))
