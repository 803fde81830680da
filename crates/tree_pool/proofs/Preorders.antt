-- The tree read from its root on, by the places of its nodes.
use Rattle.std.proofs.Common.{◌≡◌, ◌∙◌, ℕ, zero, suc, ◌+◌, ◌-◌, ◌<◌, List, [], ◌∷◌, ◌++◌, map, length, length-append, reverse, refl, sym, ap, Some, option_map, append_assoc, arith}
use Rattle.std.proofs.lemmas.List.{map-append, reverse-append}
use Rattle.certificate.specs.declared.split.Side.{Side}
use Rattle.certificate.specs.declared.split.Side.TheVariants.{Low, High}
use Rattle.search_tree.specs.declared.leaf.Leaf.{Leaf}
use Rattle.verdicts.specs.Certificate.{Split, Side as SideOf, Low as LowOf, High as HighOf}
use Rattle.search_tree.specs.declared.leaf.Slot.{Slot}
use Rattle.search_tree.specs.declared.leaf.Slot.TheVariants as slot
use Rattle.tree_pool.specs.declared.refs.NodeRef.{NodeRef}
use Rattle.search_node.specs.declared.node.SplitTaken.{SplitTaken}
use Rattle.search_tree.specs.Tree.{Tree, Divided, AtLeaf, AllLeaves, at_place}
use Rattle.search_tree.specs.Slots.{slots_of}
use Rattle.tree_pool.specs.Paths.{path_at}
use Rattle.tree_pool.specs.Standing.{way_of, root_of, side_of, ref_at, AreNodes, left_behind, in_preorder}

pub at_both : (t u : Tree) (w v : List Side) → at_place t w ≡ Some u → at_place t (w ++ v) ≡ at_place u v
at_both t u [] v h = let same : t ≡ u = cc in ap (λ x. at_place x v) same
at_both (AtLeaf l) u (side ∷ w) v h = cc
at_both (Divided s low high) u (Low ∷ w) v h = at_both low u w v h
at_both (Divided s low high) u (High ∷ w) v h = at_both high u w v h

same_node : (x y : Slot) → Some x ≡ Some y → x ≡ y
same_node x y h = cc

module _ (node : NodeRef → Slot) (t : Tree) (paths : List (List SplitTaken)) (refs : List NodeRef) (are : AreNodes node t paths refs) where
  -- the tree stands at this place
  abbrev IsAt : ℕ → Tree → Type 0
  IsAt p u = (p < length refs) × (at_place t (way_of (path_at paths p)) ≡ Some u)

  pub read_root : (p : ℕ) (u : Tree) → IsAt p u → node (ref_at refs p) ≡ root_of u
  read_root p u at = same_node _ _ (sym (are.stands p at.0).there ∙ ap (option_map root_of) at.1)

  side_there : (p k : ℕ) (u v : Tree) (taken : SplitTaken) → at_place t (way_of (path_at paths p)) ≡ Some u → path_at paths k ≡ path_at paths p ++ taken ∷ [] → at_place u (taken.side ∷ []) ≡ Some v → at_place t (way_of (path_at paths k)) ≡ Some v
  side_there p k u v taken h e there =
      ap (λ path. at_place t (way_of path)) e ∙ ap (at_place t) (map-append (λ (z : SplitTaken). z.side) (path_at paths p) (taken ∷ [])) ∙ at_both t u (way_of (path_at paths p)) (taken.side ∷ []) h ∙ there

  pub low_at : (p : ℕ) (s : Split) (low high : Tree) → IsAt p (Divided s low high) → IsAt (side_of (ref_at refs p)) low
  low_at p s low high at =
      let both = are.sides p s at.0 (read_root p (Divided s low high) at) in
      ((let h = both.within in omega arith), side_there p (side_of (ref_at refs p)) (Divided s low high) low (record { split = s; side = Low }) at.1 both.low refl)

  high_at : (p : ℕ) (s : Split) (low high : Tree) → IsAt p (Divided s low high) → IsAt (suc (side_of (ref_at refs p))) high
  high_at p s low high at =
      let both = are.sides p s at.0 (read_root p (Divided s low high) at) in
      (both.within, side_there p (suc (side_of (ref_at refs p))) (Divided s low high) high (record { split = s; side = High }) at.1 both.high refl)

  pub root_at : IsAt 0 t
  root_at = ((let m = are.count in omega arith), ap (λ path. at_place t (way_of path)) are.root)

  -- what holds of each leaf at a place holds of all leaves
  pub from_places : (P : Leaf → Type 0) → ((p : ℕ) (leaf : Leaf) → p < length refs → node (ref_at refs p) ≡ slot.Leaf leaf → P leaf) → (u : Tree) (p : ℕ) (sides : List SideOf) → IsAt p u → AllLeaves (λ sides leaf. P leaf) sides u
  from_places P f (AtLeaf leaf) p sides at = f p leaf at.0 (read_root p (AtLeaf leaf) at)
  from_places P f (Divided s low high) p sides at = (
    from_places P f low (side_of (ref_at refs p)) (LowOf s ∷ sides) (low_at p s low high at),
    from_places P f high (suc (side_of (ref_at refs p))) (HighOf s ∷ sides) (high_at p s low high at),
  )

  pub walked : (u : Tree) (p n m : ℕ) (left : List ℕ) → IsAt p u → m ≡ length (slots_of u) + n → map node (in_preorder node refs m (p ∷ left)) ≡ slots_of u ++ map node (in_preorder node refs n left)
  walked u p n zero left at e = absurd (never u e)
    where
      never : (u : Tree) → 0 ≡ length (slots_of u) + n → ⊥
      never (AtLeaf leaf) e = omega arith
      never (Divided s low high) e = omega arith
  walked (AtLeaf leaf) p n (suc m) left at e =
      let r = ref_at refs p in
      let same : m ≡ n = omega arith in
      ap (λ x. x ∷ map node (in_preorder node refs m (left_behind x (side_of r) left))) (read_root p (AtLeaf leaf) at) ∙ ap (λ k. slot.Leaf leaf ∷ map node (in_preorder node refs k left)) same
  walked (Divided s low high) p n (suc m) left at e =
      let r = ref_at refs p in
      let k = side_of r in
      let many = length-append (slots_of low) (slots_of high) in
      let first : m ≡ length (slots_of low) + (length (slots_of high) + n) = omega arith in
      ap (λ x. x ∷ map node (in_preorder node refs m (left_behind x k left))) (read_root p (Divided s low high) at)
      ∙ ap (λ xs. slot.Divided s ∷ xs) (walked low k (length (slots_of high) + n) m (suc k ∷ left) (low_at p s low high at) first
      ∙ ap (λ xs. slots_of low ++ xs) (walked high (suc k) n (length (slots_of high) + n) left (high_at p s low high at) refl) ∙ sym (append_assoc (slots_of low) (slots_of high) (map node (in_preorder node refs n left))))

-- one node more
pub walk_step : (node : NodeRef → Slot) (refs all news : List NodeRef) (old rest lefts : List ℕ) (place count : ℕ) (r : NodeRef) (whole : List NodeRef) → old ≡ rest ++ place ∷ [] → r ≡ ref_at refs place → news ≡ all ++ r ∷ []
    → reverse lefts ≡ left_behind (node r) (side_of r) (reverse rest) → 0 < count → all ++ in_preorder node refs count (reverse old) ≡ whole → news ++ in_preorder node refs (count - 1) (reverse lefts) ≡ whole
walk_step node refs all news old rest lefts place count r whole is_old is_r is_news are_left pos h =
    let next : suc (count - 1) ≡ count = omega arith in
    let back : reverse old ≡ place ∷ reverse rest = ap reverse is_old ∙ reverse-append rest (place ∷ []) in
    let opened : in_preorder node refs count (reverse old) ≡ r ∷ in_preorder node refs (count - 1) (left_behind (node r) (side_of r) (reverse rest)) =
    ap (λ n. in_preorder node refs n (reverse old)) (sym next) ∙ ap (in_preorder node refs (suc (count - 1))) back ∙ ap (λ x. x ∷ in_preorder node refs (count - 1) (left_behind (node x) (side_of x) (reverse rest))) (sym is_r) in
    ap (λ xs. xs ++ in_preorder node refs (count - 1) (reverse lefts)) is_news ∙ append_assoc all (r ∷ []) (in_preorder node refs (count - 1) (reverse lefts))
    ∙ ap (λ ls. all ++ r ∷ in_preorder node refs (count - 1) ls) are_left ∙ ap (λ xs. all ++ xs) (sym opened) ∙ h
