-- The nodes of a tree by their places, after a step.
use Rattle.std.proofs.Common.{◌≡◌, ◌∙◌, ℕ, suc, ◌+◌, ◌*◌, ◌<◌, ◌≤◌, List, [], ◌∷◌, ◌++◌, set, get_or, length, length-append, refl, sym, ap, subst, Option, Some, None, option_map, append-nil, arith, ⊎_elim, inl, inr}
use Rattle.std.specs.Prelude.{◌⊎◌}
use Rattle.std.proofs.lemmas.List.{map-append, length-set, get_or-set_same, get_or-set_other, get_or_append_left, get_or_at}
use Rattle.std.proofs.lemmas.Bool.{cases_eq, cases_lt}
use Rattle.certificate.specs.declared.split.Side.{Side}
use Rattle.certificate.specs.declared.split.Side.TheVariants.{Low, High}
use Rattle.search_tree.specs.declared.leaf.Leaf.{Leaf}
use Rattle.verdicts.specs.Certificate.{Split}
use Rattle.search_tree.specs.declared.leaf.Slot.{Slot}
use Rattle.search_tree.specs.declared.leaf.Slot.TheVariants as slot
use Rattle.tree_pool.specs.declared.refs.NodeRef.{NodeRef}
use Rattle.tree_pool.specs.declared.refs.NodeRef.TheVariants.{Again}
use Rattle.search_node.specs.declared.node.SplitTaken.{SplitTaken}
use Rattle.search_tree.specs.Tree.{Tree, Divided, AtLeaf, at_place, replaced, made, reclaimed, given_back, lease_of}
use Rattle.search_tree.proofs.Laws.{made_reclaimed, made_replaced}
use Rattle.tree_pool.specs.Places.{taken_to}
use Rattle.tree_pool.specs.Paths.{path_at}
use Rattle.tree_pool.specs.Standing.{way_of, root_of, node_on, IsOn, side_of, ref_at, AreSides, AreNodes}

-- ---- the nodes on ways, with another tree in the place of a leaf

pub leaf_there : (o : Option Tree) (leaf : Leaf) → option_map root_of o ≡ Some (slot.Leaf leaf) → o ≡ Some (AtLeaf leaf)
leaf_there None leaf h = cc
leaf_there (Some (AtLeaf l)) leaf h = let same : l ≡ leaf = cc in ap (λ m. Some (AtLeaf m)) same
leaf_there (Some (Divided s low high)) leaf h = cc

elsewhere : (t : Tree) (w v : List Side) (leaf : Leaf) (u : Tree) (x : Slot) → node_on t w ≡ Some (slot.Leaf leaf) → node_on t v ≡ Some x → ¬ (v ≡ w) → (node_on (replaced t w u) v ≡ Some x) × (taken_to (replaced t w u) v ≡ taken_to t v)
elsewhere (AtLeaf l) [] [] leaf u x h k n = absurd (n refl)
elsewhere (AtLeaf l) [] (side ∷ v) leaf u x h k n = cc
elsewhere (AtLeaf l) (side ∷ w) v leaf u x h k n = cc
elsewhere (Divided s low high) [] v leaf u x h k n = cc
elsewhere (Divided s low high) (Low ∷ w) [] leaf u x h k n = (k, refl)
elsewhere (Divided s low high) (High ∷ w) [] leaf u x h k n = (k, refl)
elsewhere (Divided s low high) (Low ∷ w) (High ∷ v) leaf u x h k n = (k, refl)
elsewhere (Divided s low high) (High ∷ w) (Low ∷ v) leaf u x h k n = (k, refl)
elsewhere (Divided s low high) (Low ∷ w) (Low ∷ v) leaf u x h k n =
    let both = elsewhere low w v leaf u x h k (λ e. n (ap (λ sides. Low ∷ sides) e)) in
    (both.0, ap (λ taken. record { split = s; side = Low } ∷ taken) both.1)
elsewhere (Divided s low high) (High ∷ w) (High ∷ v) leaf u x h k n =
    let both = elsewhere high w v leaf u x h k (λ e. n (ap (λ sides. High ∷ sides) e)) in
    (both.0, ap (λ taken. record { split = s; side = High } ∷ taken) both.1)

inside : (t : Tree) (w v : List Side) (leaf : Leaf) (u : Tree) → node_on t w ≡ Some (slot.Leaf leaf) → (node_on (replaced t w u) (w ++ v) ≡ node_on u v) × (taken_to (replaced t w u) (w ++ v) ≡ taken_to t w ++ taken_to u v)
inside (AtLeaf l) [] v leaf u h = (refl, refl)
inside (AtLeaf l) (side ∷ w) v leaf u h = cc
inside (Divided s low high) [] v leaf u h = cc
inside (Divided s low high) (Low ∷ w) v leaf u h =
    let both = inside low w v leaf u h in
    (both.0, ap (λ taken. record { split = s; side = Low } ∷ taken) both.1)
inside (Divided s low high) (High ∷ w) v leaf u h =
    let both = inside high w v leaf u h in
    (both.0, ap (λ taken. record { split = s; side = High } ∷ taken) both.1)

-- nothing stands below a leaf
below : (t : Tree) (w v : List Side) (side : Side) (leaf : Leaf) → node_on t w ≡ Some (slot.Leaf leaf) → node_on t (w ++ side ∷ v) ≡ None
below (AtLeaf l) [] v side leaf h = refl
below (AtLeaf l) (first ∷ w) v side leaf h = cc
below (Divided s low high) [] v side leaf h = cc
below (Divided s low high) (Low ∷ w) v side leaf h = below low w v side leaf h
below (Divided s low high) (High ∷ w) v side leaf h = below high w v side leaf h

-- ---- lists

pub second_at : {A : Type 0} (xs : List A) (a b d : A) (n : ℕ) → length xs ≡ n → get_or (xs ++ a ∷ b ∷ []) (suc n) d ≡ b
second_at {A = A} xs a b d n e = ap (λ m. get_or (xs ++ a ∷ b ∷ []) (suc m) d) (sym e) ∙ go xs
  where
    go : (xs : List A) → get_or (xs ++ a ∷ b ∷ []) (suc (length xs)) d ≡ b
    go [] = refl
    go (x ∷ xs) = go xs

abbrev last_of : SplitTaken → List SplitTaken → SplitTaken
last_of d [] = d
last_of d (x ∷ xs) = last_of x xs

last_is : (d : SplitTaken) (xs : List SplitTaken) (a : SplitTaken) → last_of d (xs ++ a ∷ []) ≡ a
last_is d [] a = refl
last_is d (x ∷ xs) a = last_is x xs a

differ : (s : Split) (xs : List SplitTaken) → xs ++ record { split = s; side = Low } ∷ [] ≡ xs ++ record { split = s; side = High } ∷ [] → ⊥
differ s xs e =
    let low : SplitTaken = record { split = s; side = Low } in
    let high : SplitTaken = record { split = s; side = High } in
    let never : Low ≡ High = ap (λ (z : SplitTaken). z.side) (sym (last_is low xs low) ∙ ap (last_of low) e ∙ last_is low xs high) in
    cc

some_or_none : (x : Slot) → Some x ≡ None → ⊥
some_or_none x h = cc

no_split : (leaf : Leaf) (s : Split) → slot.Leaf leaf ≡ slot.Divided s → ⊥
no_split leaf s h = cc

same_split : (s z : Split) → slot.Divided s ≡ slot.Divided z → s ≡ z
same_split s z h = cc

moved : (t : Tree) (path other : List SplitTaken) (x y : Slot) → other ≡ path → y ≡ x → IsOn t path x → IsOn t other y
moved t path other x y e f h = record {
  there = ap (λ w. node_on t (way_of w)) e ∙ h.there ∙ ap Some (sym f);
  are_taken = ap (λ w. taken_to t (way_of w)) e ∙ h.are_taken ∙ sym e;
}

-- ---- the same of places

module _ (node : NodeRef → Slot) (t : Tree) (paths : List (List SplitTaken)) (refs : List NodeRef) (are : AreNodes node t paths refs) (i : ℕ) (less : i < length refs) (leaf : Leaf) (is_leaf : node (ref_at refs i) ≡ slot.Leaf leaf) where
  is_there : node_on t (way_of (path_at paths i)) ≡ Some (slot.Leaf leaf)
  is_there = (are.stands i less).there ∙ ap Some is_leaf

  -- what stands at another place stays there
  stays : (u : Tree) (p : ℕ) → p < length refs → ¬ (p ≡ i) → IsOn (replaced t (way_of (path_at paths i)) u) (path_at paths p) (node (ref_at refs p))
  stays u p within other =
      let here = are.stands i less in
      let there = are.stands p within in
      let both = elsewhere t (way_of (path_at paths i)) (way_of (path_at paths p)) leaf u (node (ref_at refs p)) is_there there.there (λ e. other (are.apart p i within less (sym there.are_taken ∙ ap (taken_to t) e ∙ here.are_taken))) in
      record { there = both.0; are_taken = both.1 ∙ there.are_taken }

  -- what stands in the tree that is put there
  comes : (u : Tree) (path more : List SplitTaken) (x : Slot) → path ≡ path_at paths i ++ more → node_on u (way_of more) ≡ Some x → taken_to u (way_of more) ≡ more → IsOn (replaced t (way_of (path_at paths i)) u) path x
  comes u path more x is_path is_node are_more =
      let w = way_of (path_at paths i) in
      let both = inside t w (way_of more) leaf u is_there in
      let way : way_of path ≡ w ++ way_of more = ap way_of is_path ∙ map-append (λ (s : SplitTaken). s.side) (path_at paths i) more in
      record {
        there = ap (node_on (replaced t w u)) way ∙ both.0 ∙ is_node;
        are_taken = ap (taken_to (replaced t w u)) way ∙ both.1 ∙ ap (λ taken. taken ++ taken_to u (way_of more)) (are.stands i less).are_taken ∙ ap (λ taken. path_at paths i ++ taken) are_more ∙ sym is_path;
      }

  new_count : (u : Tree) → made (replaced t (way_of (path_at paths i)) u) ≡ made t + made u
  new_count u = made_replaced t (way_of (path_at paths i)) leaf u (leaf_there (at_place t (way_of (path_at paths i))) leaf is_there)

  -- another leaf in the place of this one
  relabelled_here : (r : NodeRef) (new : Leaf) → node r ≡ slot.Leaf new → AreNodes node (replaced t (way_of (path_at paths i)) (AtLeaf new)) paths (set refs i r)
  relabelled_here r new is_new = record {
    count = same_count ∙ are.count ∙ more;
    each = are.each ∙ sym same_count;
    root = are.root;
    stands = λ p within. ⊎_elim (at_i p) (at_other p (subst (λ n. p < n) same_count within)) (cases_eq p i);
    sides = λ p s within is_split. ⊎_elim (no_split p s is_split) (sides_other p s (subst (λ n. p < n) same_count within) is_split) (cases_eq p i);
    apart = λ p q first second e. are.apart p q (subst (λ n. p < n) same_count first) (subst (λ n. q < n) same_count second) e;
  }
    where
      same_count : length (set refs i r) ≡ length refs
      same_count = length-set refs i r

      more : made t * 2 + 1 ≡ made (replaced t (way_of (path_at paths i)) (AtLeaf new)) * 2 + 1
      more = let e = new_count (AtLeaf new) in omega arith

      read : (p : ℕ) → p ≡ i → node (ref_at (set refs i r) p) ≡ slot.Leaf new
      read p e = ap (λ n. node (ref_at (set refs i r) n)) e ∙ ap node (get_or-set_same refs i r Again less) ∙ is_new

      at_i : (p : ℕ) → p ≡ i → IsOn (replaced t (way_of (path_at paths i)) (AtLeaf new)) (path_at paths p) (node (ref_at (set refs i r) p))
      at_i p e = comes (AtLeaf new) (path_at paths p) [] (node (ref_at (set refs i r) p)) (ap (path_at paths) e ∙ sym (append-nil (path_at paths i))) (ap Some (sym (read p e))) refl

      at_other : (p : ℕ) → p < length refs → ¬ (p ≡ i) → IsOn (replaced t (way_of (path_at paths i)) (AtLeaf new)) (path_at paths p) (node (ref_at (set refs i r) p))
      at_other p within other = subst (λ x. IsOn (replaced t (way_of (path_at paths i)) (AtLeaf new)) (path_at paths p) (node x)) (sym (get_or-set_other refs i p r Again other)) (stays (AtLeaf new) p within other)

      no_split : (p : ℕ) (s : Split) → node (ref_at (set refs i r) p) ≡ slot.Divided s → p ≡ i → AreSides paths (length (set refs i r)) (path_at paths p) s (side_of (ref_at (set refs i r) p))
      no_split p s is_split e = let never : slot.Leaf new ≡ slot.Divided s = sym (read p e) ∙ is_split in cc

      sides_other : (p : ℕ) (s : Split) → p < length refs → node (ref_at (set refs i r) p) ≡ slot.Divided s → ¬ (p ≡ i) → AreSides paths (length (set refs i r)) (path_at paths p) s (side_of (ref_at (set refs i r) p))
      sides_other p s within is_split other =
          let same = get_or-set_other refs i p r Again other in
          subst (λ n. AreSides paths n (path_at paths p) s (side_of (ref_at (set refs i r) p))) (sym same_count)
          (subst (λ x. AreSides paths (length refs) (path_at paths p) s (side_of x)) (sym same) (are.sides p s within (ap node (sym same) ∙ is_split)))

  -- a split with two leaves in the place of this one
  forked_here : (r a b : NodeRef) (s : Split) (x y : Leaf) (news : List NodeRef) (longer : List (List SplitTaken)) → node r ≡ slot.Divided s → side_of r ≡ length refs → node a ≡ slot.Leaf x → node b ≡ slot.Leaf y → news ≡ set refs i r ++ a ∷ b ∷ []
      → longer ≡ paths ++ (path_at paths i ++ record { split = s; side = Low } ∷ []) ∷ (path_at paths i ++ record { split = s; side = High } ∷ []) ∷ []
      → AreNodes node (replaced t (way_of (path_at paths i)) (Divided s (AtLeaf x) (AtLeaf y))) longer news
  forked_here r a b s x y news longer is_split at_end is_a is_b are_news are_longer = record {
    count = let more = new_count u in let m = are.count in omega (arith, new_many);
    each = ap length are_longer ∙ length-append paths _ ∙ ap (λ n. n + 2) are.each ∙ sym new_many;
    root = old_path 0 (let m = are.count in omega arith) ∙ are.root;
    stands = λ p within. ⊎_elim (λ old. ⊎_elim (at_i p) (at_other p old) (cases_eq p i)) (⊎_elim (at_low p) (at_high p)) (which p within);
    sides = λ p z within e. ⊎_elim (λ old. ⊎_elim (sides_i p z e) (sides_other p z old e) (cases_eq p i)) (⊎_elim (no_low p z e) (no_high p z e)) (which p within);
    apart = λ p q first second e. ⊎_elim (λ old. ⊎_elim (λ also. are.apart p q old also (sym (old_path p old) ∙ e ∙ old_path q also)) (λ new. clash p q old (new_path q new) e) (which q second))
        (λ new. ⊎_elim (λ old. sym (clash q p old (new_path p new) (sym e))) (λ also. both_new p q new also e) (which q second)) (which p first);
  }
    where
      u : Tree
      u = Divided s (AtLeaf x) (AtLeaf y)

      t' : Tree
      t' = replaced t (way_of (path_at paths i)) u

      low_taken : SplitTaken
      low_taken = record { split = s; side = Low }

      high_taken : SplitTaken
      high_taken = record { split = s; side = High }

      same_count : length (set refs i r) ≡ length refs
      same_count = length-set refs i r

      new_many : length news ≡ length refs + 2
      new_many = ap length are_news ∙ length-append (set refs i r) (a ∷ b ∷ []) ∙ ap (λ n. n + 2) same_count

      which : (p : ℕ) → p < length news → (p < length refs) ⊎ ((p ≡ length refs) ⊎ (p ≡ suc (length refs)))
      which p within = ⊎_elim (λ old. inl old) (λ past. inr (⊎_elim (λ e. inl e) (λ n. inr (last p (length refs) (length news) within new_many past n)) (cases_eq p (length refs)))) (cases_lt p (length refs))
        where
          last : (p n m : ℕ) → p < m → m ≡ n + 2 → n ≤ p → ¬ (p ≡ n) → p ≡ suc n
          last p n m less e past other = omega arith

      old_ref : (p : ℕ) → p < length refs → ref_at news p ≡ ref_at (set refs i r) p
      old_ref p old = ap (λ rs. ref_at rs p) are_news ∙ get_or_append_left (set refs i r) (a ∷ b ∷ []) Again p (omega (arith, old, same_count))

      old_path : (p : ℕ) → p < length refs → path_at longer p ≡ path_at paths p
      old_path p old = ap (λ ps. path_at ps p) are_longer ∙ get_or_append_left paths _ [] p (let e = are.each in omega (arith, old, e))

      ref_low : ref_at news (length refs) ≡ a
      ref_low = ap (λ rs. ref_at rs (length refs)) are_news ∙ get_or_at (set refs i r) a (b ∷ []) Again (length refs) same_count

      ref_high : ref_at news (suc (length refs)) ≡ b
      ref_high = ap (λ rs. ref_at rs (suc (length refs))) are_news ∙ second_at (set refs i r) a b Again (length refs) same_count

      path_low : path_at longer (length refs) ≡ path_at paths i ++ low_taken ∷ []
      path_low = ap (λ ps. path_at ps (length refs)) are_longer ∙ get_or_at paths _ _ [] (length refs) are.each

      path_high : path_at longer (suc (length refs)) ≡ path_at paths i ++ high_taken ∷ []
      path_high = ap (λ ps. path_at ps (suc (length refs))) are_longer ∙ second_at paths _ _ [] (length refs) are.each

      read_i : (p : ℕ) → p ≡ i → node (ref_at news p) ≡ slot.Divided s
      read_i p e = ap (λ n. node (ref_at news n)) e ∙ ap node (old_ref i less ∙ get_or-set_same refs i r Again less) ∙ is_split

      read_other : (p : ℕ) → p < length refs → ¬ (p ≡ i) → ref_at news p ≡ ref_at refs p
      read_other p old other = old_ref p old ∙ get_or-set_other refs i p r Again other

      read_low : (p : ℕ) → p ≡ length refs → node (ref_at news p) ≡ slot.Leaf x
      read_low p e = ap (λ n. node (ref_at news n)) e ∙ ap node ref_low ∙ is_a

      read_high : (p : ℕ) → p ≡ suc (length refs) → node (ref_at news p) ≡ slot.Leaf y
      read_high p e = ap (λ n. node (ref_at news n)) e ∙ ap node ref_high ∙ is_b

      at_i : (p : ℕ) → p ≡ i → IsOn t' (path_at longer p) (node (ref_at news p))
      at_i p e = comes u (path_at longer p) [] (node (ref_at news p)) (ap (path_at longer) e ∙ old_path i less ∙ sym (append-nil (path_at paths i))) (ap Some (sym (read_i p e))) refl

      at_other : (p : ℕ) → p < length refs → ¬ (p ≡ i) → IsOn t' (path_at longer p) (node (ref_at news p))
      at_other p old other = moved t' (path_at paths p) (path_at longer p) (node (ref_at refs p)) (node (ref_at news p)) (old_path p old) (ap node (read_other p old other)) (stays u p old other)

      at_low : (p : ℕ) → p ≡ length refs → IsOn t' (path_at longer p) (node (ref_at news p))
      at_low p e = comes u (path_at longer p) (low_taken ∷ []) (node (ref_at news p)) (ap (path_at longer) e ∙ path_low) (ap Some (sym (read_low p e))) refl

      at_high : (p : ℕ) → p ≡ suc (length refs) → IsOn t' (path_at longer p) (node (ref_at news p))
      at_high p e = comes u (path_at longer p) (high_taken ∷ []) (node (ref_at news p)) (ap (path_at longer) e ∙ path_high) (ap Some (sym (read_high p e))) refl

      sides_i : (p : ℕ) (z : Split) → node (ref_at news p) ≡ slot.Divided z → p ≡ i → AreSides longer (length news) (path_at longer p) z (side_of (ref_at news p))
      sides_i p z e is_i =
          let same : s ≡ z = same_split s z (sym (read_i p is_i) ∙ e) in
          let place : side_of (ref_at news p) ≡ length refs = ap (λ n. side_of (ref_at news n)) is_i ∙ ap side_of (old_ref i less ∙ get_or-set_same refs i r Again less) ∙ at_end in
          let path : path_at longer p ≡ path_at paths i = ap (path_at longer) is_i ∙ old_path i less in
          record {
            within = omega (arith, place, new_many);
            low = ap (path_at longer) place ∙ path_low ∙ ap (λ z. path_at paths i ++ record { split = z; side = Low } ∷ []) same ∙ ap (λ w. w ++ record { split = z; side = Low } ∷ []) (sym path);
            high = ap (λ n. path_at longer (suc n)) place ∙ path_high ∙ ap (λ z. path_at paths i ++ record { split = z; side = High } ∷ []) same ∙ ap (λ w. w ++ record { split = z; side = High } ∷ []) (sym path);
          }

      sides_other : (p : ℕ) (z : Split) → p < length refs → node (ref_at news p) ≡ slot.Divided z → ¬ (p ≡ i) → AreSides longer (length news) (path_at longer p) z (side_of (ref_at news p))
      sides_other p z old e other =
          let same = read_other p old other in
          let both = are.sides p z old (ap node (sym same) ∙ e) in
          let k = side_of (ref_at refs p) in
          let place : side_of (ref_at news p) ≡ k = ap side_of same in
          let low_old : k < length refs = let h = both.within in omega arith in
          record {
            within = let h = both.within in omega (arith, place, new_many, h);
            low = ap (path_at longer) place ∙ old_path k low_old ∙ both.low ∙ ap (λ w. w ++ record { split = z; side = Low } ∷ []) (sym (old_path p old));
            high = ap (λ n. path_at longer (suc n)) place ∙ old_path (suc k) both.within ∙ both.high ∙ ap (λ w. w ++ record { split = z; side = High } ∷ []) (sym (old_path p old));
          }

      no_low : (p : ℕ) (z : Split) → node (ref_at news p) ≡ slot.Divided z → p ≡ length refs → AreSides longer (length news) (path_at longer p) z (side_of (ref_at news p))
      no_low p z e is_low = absurd (no_split x z (sym (read_low p is_low) ∙ e))

      no_high : (p : ℕ) (z : Split) → node (ref_at news p) ≡ slot.Divided z → p ≡ suc (length refs) → AreSides longer (length news) (path_at longer p) z (side_of (ref_at news p))
      no_high p z e is_high = absurd (no_split y z (sym (read_high p is_high) ∙ e))

      new_path : (p : ℕ) → (p ≡ length refs) ⊎ (p ≡ suc (length refs)) → (side : Side) × (path_at longer p ≡ path_at paths i ++ record { split = s; side = side } ∷ [])
      new_path p new = ⊎_elim (λ e. (Low, ap (path_at longer) e ∙ path_low)) (λ e. (High, ap (path_at longer) e ∙ path_high)) new

      clash : (p q : ℕ) → p < length refs → (side : Side) × (path_at longer q ≡ path_at paths i ++ record { split = s; side = side } ∷ []) → path_at longer p ≡ path_at longer q → p ≡ q
      clash p q old new e =
          let taken : SplitTaken = record { split = s; side = new.0 } in
          let path : path_at paths p ≡ path_at paths i ++ taken ∷ [] = sym (old_path p old) ∙ e ∙ new.1 in
          let way : way_of (path_at paths p) ≡ way_of (path_at paths i) ++ new.0 ∷ [] = ap way_of path ∙ map-append (λ (z : SplitTaken). z.side) (path_at paths i) (taken ∷ []) in
          absurd (some_or_none (node (ref_at refs p)) (sym (are.stands p old).there ∙ ap (node_on t) way ∙ below t (way_of (path_at paths i)) [] new.0 leaf is_there))

      both_new : (p q : ℕ) → (p ≡ length refs) ⊎ (p ≡ suc (length refs)) → (q ≡ length refs) ⊎ (q ≡ suc (length refs)) → path_at longer p ≡ path_at longer q → p ≡ q
      both_new p q first second e =
          ⊎_elim
          (λ f. ⊎_elim (λ g. f ∙ sym g) (λ g. absurd (differ s (path_at paths i) (sym path_low ∙ ap (path_at longer) (sym f) ∙ e ∙ ap (path_at longer) g ∙ path_high))) second)
          (λ f. ⊎_elim (λ g. absurd (differ s (path_at paths i) (sym path_low ∙ ap (path_at longer) (sym g) ∙ sym e ∙ ap (path_at longer) f ∙ path_high))) (λ g. f ∙ sym g) second)
          first

pub leaf_on : (node : NodeRef → Slot) (t : Tree) (paths : List (List SplitTaken)) (refs : List NodeRef) (i : ℕ) (leaf : Leaf) → AreNodes node t paths refs → i < length refs → node (ref_at refs i) ≡ slot.Leaf leaf → at_place t (way_of (path_at paths i)) ≡ Some (AtLeaf leaf)
leaf_on node t paths refs i leaf are less is_leaf = leaf_there (at_place t (way_of (path_at paths i))) leaf ((are.stands i less).there ∙ ap Some is_leaf)

pub relabelled : (node : NodeRef → Slot) (t : Tree) (paths : List (List SplitTaken)) (refs : List NodeRef) (i : ℕ) (r : NodeRef) (leaf new : Leaf) → AreNodes node t paths refs → i < length refs → node (ref_at refs i) ≡ slot.Leaf leaf → node r ≡ slot.Leaf new
    → AreNodes node (replaced t (way_of (path_at paths i)) (AtLeaf new)) paths (set refs i r)
relabelled node t paths refs i r leaf new are less is_leaf is_new = relabelled_here node t paths refs are i less leaf is_leaf r new is_new

pub forked : (node : NodeRef → Slot) (t : Tree) (paths longer : List (List SplitTaken)) (refs news : List NodeRef) (i : ℕ) (r a b : NodeRef) (leaf x y : Leaf) (s : Split) → AreNodes node t paths refs → i < length refs → node (ref_at refs i) ≡ slot.Leaf leaf
    → node r ≡ slot.Divided s → side_of r ≡ length refs → node a ≡ slot.Leaf x → node b ≡ slot.Leaf y → news ≡ set refs i r ++ a ∷ b ∷ []
    → longer ≡ paths ++ (path_at paths i ++ record { split = s; side = Low } ∷ []) ∷ (path_at paths i ++ record { split = s; side = High } ∷ []) ∷ []
    → AreNodes node (replaced t (way_of (path_at paths i)) (Divided s (AtLeaf x) (AtLeaf y))) longer news
forked node t paths longer refs news i r a b leaf x y s are less is_leaf is_split at_end is_a is_b are_news are_longer = forked_here node t paths refs are i less leaf is_leaf r a b s x y news longer is_split at_end is_a is_b are_news are_longer

-- the same where references are read in another way
pub read_anew : (node other : NodeRef → Slot) (t : Tree) (paths : List (List SplitTaken)) (refs : List NodeRef) → AreNodes node t paths refs → ((p : ℕ) → p < length refs → other (ref_at refs p) ≡ node (ref_at refs p)) → AreNodes other t paths refs
read_anew node other t paths refs are same = record {
  count = are.count;
  each = are.each;
  root = are.root;
  stands = λ p within. moved t (path_at paths p) (path_at paths p) (node (ref_at refs p)) (other (ref_at refs p)) refl (same p within) (are.stands p within);
  sides = λ p s within e. are.sides p s within (sym (same p within) ∙ e);
  apart = are.apart;
}

-- ---- reclaimed leaves

abbrev pub slot_back : Slot → Slot
slot_back (slot.Divided s) = slot.Divided s
slot_back (slot.Leaf leaf) = slot.Leaf (given_back leaf (lease_of leaf))

back_on : (t : Tree) (way : List Side) → node_on (reclaimed t) way ≡ option_map slot_back (node_on t way)
back_on (AtLeaf leaf) [] = refl
back_on (AtLeaf leaf) (side ∷ way) = refl
back_on (Divided s low high) [] = refl
back_on (Divided s low high) (Low ∷ way) = back_on low way
back_on (Divided s low high) (High ∷ way) = back_on high way

back_taken : (t : Tree) (way : List Side) → taken_to (reclaimed t) way ≡ taken_to t way
back_taken (AtLeaf leaf) [] = refl
back_taken (AtLeaf leaf) (side ∷ way) = refl
back_taken (Divided s low high) [] = refl
back_taken (Divided s low high) (Low ∷ way) = ap (λ taken. record { split = s; side = Low } ∷ taken) (back_taken low way)
back_taken (Divided s low high) (High ∷ way) = ap (λ taken. record { split = s; side = High } ∷ taken) (back_taken high way)

split_back : (x : Slot) (s : Split) → slot_back x ≡ slot.Divided s → x ≡ slot.Divided s
split_back (slot.Divided z) s h = h
split_back (slot.Leaf leaf) s h = cc

pub all_back : (node : NodeRef → Slot) (t : Tree) (paths : List (List SplitTaken)) (refs news : List NodeRef) → AreNodes node t paths refs → length news ≡ length refs
    → ((p : ℕ) → p < length refs → node (ref_at news p) ≡ slot_back (node (ref_at refs p))) → ((p : ℕ) (s : Split) → p < length refs → node (ref_at refs p) ≡ slot.Divided s → ref_at news p ≡ ref_at refs p)
    → AreNodes node (reclaimed t) paths news
all_back node t paths refs news are many back same = record {
  count = many ∙ are.count ∙ ap (λ n. n * 2 + 1) (sym (made_reclaimed t));
  each = are.each ∙ sym many;
  root = are.root;
  stands = λ p within. let here = are.stands p (old p within) in record {
    there = back_on t (way_of (path_at paths p)) ∙ ap (option_map slot_back) here.there ∙ ap Some (sym (back p (old p within)));
    are_taken = back_taken t (way_of (path_at paths p)) ∙ here.are_taken;
  };
  sides = λ p s within e. let was = split_back (node (ref_at refs p)) s (sym (back p (old p within)) ∙ e) in
      subst (λ n. AreSides paths n (path_at paths p) s (side_of (ref_at news p))) (sym many) (subst (λ x. AreSides paths (length refs) (path_at paths p) s (side_of x)) (sym (same p s (old p within) was)) (are.sides p s (old p within) was));
  apart = λ p q first second e. are.apart p q (old p first) (old q second) e;
}
  where
    old : (p : ℕ) → p < length news → p < length refs
    old p within = subst (λ n. p < n) many within
