-- The nodes of a board's tree with another tree in the place of a leaf.
use Rattle.std.proofs.Common.{◌≡◌, ◌∙◌, ℕ, zero, suc, ◌+◌, ◌*◌, ◌<◌, List, [], ◌∷◌, ◌++◌, drop, set, length, length-append, refl, sym, ap, subst, Some, None, append_assoc, arith, slice_get}
use Rattle.std.proofs.lemmas.List.{map-append, length-set, get_or-set_other, get_or_append_left, get_or_at, drop-drop, drop_at}
use Rattle.certificate.specs.declared.split.Side.{Side}
use Rattle.certificate.specs.declared.split.Side.TheVariants.{Low, High}
use Rattle.verdicts.specs.Certificate.{Split}
use Rattle.search_node.specs.declared.node.SplitTaken.{SplitTaken}
use Rattle.search_tree.specs.declared.leaf.Leaf.{Leaf}
use Rattle.search_tree.specs.declared.leaf.Leaf.TheVariants.{Todo}
use Rattle.search_tree.specs.declared.leaf.Slot.{Slot}
use Rattle.search_tree.specs.declared.leaf.Slot.TheVariants as slot
use Rattle.search_tree.specs.Tree.{Tree, Divided, AtLeaf, replaced, made}
use Rattle.search_tree.specs.Slots.{slots_of}
use Rattle.tree_pool.specs.declared.refs.NodeRef.{NodeRef}
use Rattle.tree_pool.specs.declared.refs.NodeRef.TheVariants.{Again, Held, Forked}
use Rattle.tree_pool.specs.LogNodes.{slot_or_todo}
use Rattle.tree_pool.specs.Paths.{path_at}
use Rattle.tree_pool.specs.Standing.{way_of, root_of, ref_at, AreNodes}
use Rattle.tree_pool.specs.Placed.{refs_with, forked_at, paths_with, Begins, split_in}
use Rattle.tree_pool.proofs.Standing.{second_at, relabelled, forked}

-- ---- trees within a preorder

record IsHead (slots : List Slot) (n : ℕ) (x : Slot) (rest : List Slot) : Type 0 where
  pub there : slice_get slots n ≡ Some x
  pub within : n < length slots
  pub behind : drop (suc n) slots ≡ rest

head_of : (slots : List Slot) (n : ℕ) (x : Slot) (rest : List Slot) → drop n slots ≡ x ∷ rest → IsHead slots n x rest
head_of [] zero x rest h = cc
head_of [] (suc n) x rest h = cc
head_of (y ∷ slots) zero x rest h = let same : y ≡ x = cc in let others : slots ≡ rest = cc in record { there = ap Some same; within = omega arith; behind = others }
head_of (y ∷ slots) (suc n) x rest h = let more = head_of slots n x rest h in record { there = more.there; within = let less = more.within in omega arith; behind = more.behind }

pub begins_within : (slots : List Slot) (n : ℕ) (t : Tree) → Begins slots n t → n < length slots
begins_within slots n (AtLeaf leaf) b = (head_of slots n (slot.Leaf leaf) b.rest b.is).within
begins_within slots n (Divided s low high) b = (head_of slots n (slot.Divided s) ((slots_of low ++ slots_of high) ++ b.rest) b.is).within

root_there : (slots : List Slot) (n : ℕ) (t : Tree) → Begins slots n t → slice_get slots n ≡ Some (root_of t)
root_there slots n (AtLeaf leaf) b = (head_of slots n (slot.Leaf leaf) b.rest b.is).there
root_there slots n (Divided s low high) b = (head_of slots n (slot.Divided s) ((slots_of low ++ slots_of high) ++ b.rest) b.is).there

sides_there : (slots : List Slot) (n : ℕ) (s : Split) (low high : Tree) (b : Begins slots n (Divided s low high)) → drop (suc n) slots ≡ slots_of low ++ (slots_of high ++ b.rest)
sides_there slots n s low high b = (head_of slots n (slot.Divided s) ((slots_of low ++ slots_of high) ++ b.rest) b.is).behind ∙ append_assoc (slots_of low) (slots_of high) b.rest

low_begins : (slots : List Slot) (n : ℕ) (s : Split) (low high : Tree) → Begins slots n (Divided s low high) → Begins slots (suc n) low
low_begins slots n s low high b = record { rest = slots_of high ++ b.rest; is = sides_there slots n s low high b }

high_begins : (slots : List Slot) (n : ℕ) (s : Split) (low high : Tree) → Begins slots n (Divided s low high) → Begins slots (suc n + length (slots_of low)) high
high_begins slots n s low high b = record {
  rest = b.rest;
  is = sym (drop-drop (length (slots_of low)) (suc n) slots) ∙ ap (drop (length (slots_of low))) (sides_there slots n s low high b) ∙ drop_at (slots_of low) (slots_of high ++ b.rest) (length (slots_of low)) refl;
}

-- the sides of a split within a preorder
pub record HasSides (slots : List Slot) (n : ℕ) (s : Split) (t : Tree) : Type 0 where
  pub low : Tree
  pub high : Tree
  pub is : t ≡ Divided s low high
  pub low_begins : Begins slots (suc n) low
  pub high_begins : Begins slots (suc n + length (slots_of low)) high

pub has_sides : (slots : List Slot) (n : ℕ) (s : Split) (t : Tree) → Begins slots n t → split_in (slice_get slots n) ≡ Some s → HasSides slots n s t
has_sides slots n s (AtLeaf leaf) b e = let never : None ≡ Some s = ap split_in (sym (root_there slots n (AtLeaf leaf) b)) ∙ e in cc
has_sides slots n s (Divided z low high) b e = record {
  low = low;
  high = high;
  is = ap (λ y. Divided y low high) (same_split (ap split_in (sym (root_there slots n (Divided z low high) b)) ∙ e));
  low_begins = low_begins slots n z low high b;
  high_begins = high_begins slots n z low high b;
}
  where
    same_split : Some z ≡ Some s → z ≡ s
    same_split e = cc

pub is_leaf : (slots : List Slot) (n : ℕ) (t : Tree) → Begins slots n t → split_in (slice_get slots n) ≡ None → (leaf : Leaf) × (t ≡ AtLeaf leaf)
is_leaf slots n (AtLeaf leaf) b e = (leaf, refl)
is_leaf slots n (Divided z low high) b e = let never : Some z ≡ None = ap split_in (sym (root_there slots n (Divided z low high) b)) ∙ e in cc

-- ---- what stands at other places stays

forked_count : (refs : List NodeRef) (i : ℕ) (r : NodeRef) → length (set refs i r ++ Again ∷ Again ∷ []) ≡ length refs + 2
forked_count refs i r = length-append (set refs i r) (Again ∷ Again ∷ []) ∙ ap (λ n. n + 2) (length-set refs i r)

pub refs_count : (entry n i : ℕ) (t : Tree) (refs : List NodeRef) → length (refs_with entry n i t refs) ≡ length refs + made t * 2
refs_count entry n i (AtLeaf leaf) refs = let same = length-set refs i (Held entry n) in omega arith
refs_count entry n i (Divided s low high) refs =
    let news = set refs i (Forked entry n (length refs)) ++ Again ∷ Again ∷ [] in
    let first = forked_count refs i (Forked entry n (length refs)) in
    let second = refs_count entry (suc n) (length refs) low news in
    let third = refs_count entry (suc n + length (slots_of low)) (suc (length refs)) high (refs_with entry (suc n) (length refs) low news) in
    omega arith

pub paths_count : (i : ℕ) (t : Tree) (paths : List (List SplitTaken)) → length (paths_with i t paths) ≡ length paths + made t * 2
paths_count i (AtLeaf leaf) paths = omega arith
paths_count i (Divided s low high) paths =
    let first = length-append paths ((path_at paths i ++ record { split = s; side = Low } ∷ []) ∷ (path_at paths i ++ record { split = s; side = High } ∷ []) ∷ []) in
    let second = paths_count (length paths) low (forked_at i s paths) in
    let third = paths_count (suc (length paths)) high (paths_with (length paths) low (forked_at i s paths)) in
    omega arith

ref_stays : (entry n i : ℕ) (t : Tree) (refs : List NodeRef) (p : ℕ) → p < length refs → ¬ (p ≡ i) → ref_at (refs_with entry n i t refs) p ≡ ref_at refs p
ref_stays entry n i (AtLeaf leaf) refs p less other = get_or-set_other refs i p (Held entry n) Again other
ref_stays entry n i (Divided s low high) refs p less other =
    let r = Forked entry n (length refs) in
    let news = set refs i r ++ Again ∷ Again ∷ [] in
    let same = length-set refs i r in
    let first = forked_count refs i r in
    let second = refs_count entry (suc n) (length refs) low news in
    ref_stays entry (suc n + length (slots_of low)) (suc (length refs)) high (refs_with entry (suc n) (length refs) low news) p (omega arith) (λ e. never p (length refs) less e)
    ∙ ref_stays entry (suc n) (length refs) low news p (omega arith) (λ e. past p (length refs) less e)
    ∙ get_or_append_left (set refs i r) (Again ∷ Again ∷ []) Again p (omega arith) ∙ get_or-set_other refs i p r Again other
  where
    never : (p k : ℕ) → p < k → ¬ (p ≡ suc k)
    never p k less e = omega arith

    past : (p k : ℕ) → p < k → ¬ (p ≡ k)
    past p k less e = omega arith

path_stays : (i : ℕ) (t : Tree) (paths : List (List SplitTaken)) (p : ℕ) → p < length paths → path_at (paths_with i t paths) p ≡ path_at paths p
path_stays i (AtLeaf leaf) paths p less = refl
path_stays i (Divided s low high) paths p less =
    let more = (path_at paths i ++ record { split = s; side = Low } ∷ []) ∷ (path_at paths i ++ record { split = s; side = High } ∷ []) ∷ [] in
    let first = length-append paths more in
    let second = paths_count (length paths) low (forked_at i s paths) in
    path_stays (suc (length paths)) high (paths_with (length paths) low (forked_at i s paths)) p (omega arith)
    ∙ path_stays (length paths) low (forked_at i s paths) p (omega arith) ∙ get_or_append_left paths more [] p less

-- as many nodes as paths come behind all others
pub both_forked : (entry n i : ℕ) (s : Split) (refs news : List NodeRef) (paths longer : List (List SplitTaken)) → news ≡ set refs i (Forked entry n (length refs)) ++ Again ∷ Again ∷ [] → longer ≡ forked_at i s paths → length paths ≡ length refs
    → (length news ≡ length refs + 2) × (length longer ≡ length news)
both_forked entry n i s refs news paths longer are_news are_longer each =
    let many = ap length are_news ∙ forked_count refs i (Forked entry n (length refs)) in
    let others : length longer ≡ length paths + 2 = ap length are_longer ∙ length-append paths ((path_at paths i ++ record { split = s; side = Low } ∷ []) ∷ (path_at paths i ++ record { split = s; side = High } ∷ []) ∷ []) in
    (many, omega (arith, many, others, each))

pub both_counts : (entry n i : ℕ) (t : Tree) (refs news : List NodeRef) (paths longer : List (List SplitTaken)) → news ≡ refs_with entry n i t refs → longer ≡ paths_with i t paths → length paths ≡ length refs
    → (length news ≡ length refs + made t * 2) × (length longer ≡ length news)
both_counts entry n i t refs news paths longer are_news are_longer each =
    let many = ap length are_news ∙ refs_count entry n i t refs in
    let others = ap length are_longer ∙ paths_count i t paths in
    (many, omega (arith, many, others, each))

-- ---- the tree with another one in the place of a leaf

-- a split and then its sides
sides_put : (t : Tree) (w : List Side) (s : Split) (a b low high : Tree) → replaced (replaced (replaced t w (Divided s a b)) (w ++ Low ∷ []) low) (w ++ High ∷ []) high ≡ replaced t w (Divided s low high)
sides_put (AtLeaf leaf) [] s a b low high = refl
sides_put (Divided z l r) [] s a b low high = refl
sides_put (AtLeaf leaf) (side ∷ w) s a b low high = refl
sides_put (Divided z l r) (Low ∷ w) s a b low high = ap (λ u. Divided z u r) (sides_put l w s a b low high)
sides_put (Divided z l r) (High ∷ w) s a b low high = ap (λ u. Divided z l u) (sides_put r w s a b low high)

module _ (node : NodeRef → Slot) (entry : ℕ) (slots : List Slot) (again : node Again ≡ slot.Leaf (Todo tt)) (held : (n : ℕ) → node (Held entry n) ≡ slot_or_todo (slice_get slots n)) (split : (n low : ℕ) → node (Forked entry n low) ≡ slot_or_todo (slice_get slots n)) where
  pub placed : (n : ℕ) (u : Tree) → Begins slots n u → (t : Tree) (paths : List (List SplitTaken)) (refs : List NodeRef) (i : ℕ) (leaf : Leaf) → AreNodes node t paths refs → i < length refs → node (ref_at refs i) ≡ slot.Leaf leaf
      → AreNodes node (replaced t (way_of (path_at paths i)) u) (paths_with i u paths) (refs_with entry n i u refs)
  placed n (AtLeaf new) b t paths refs i leaf are less is_leaf =
      relabelled node t paths refs i (Held entry n) leaf new are less is_leaf (held n ∙ ap slot_or_todo (root_there slots n (AtLeaf new) b))
  placed n (Divided s low high) b t paths refs i leaf are less is_leaf =
      let k = length refs in
      let r = Forked entry n k in
      let news = set refs i r ++ Again ∷ Again ∷ [] in
      let longer = forked_at i s paths in
      let w = way_of (path_at paths i) in
      let low_taken : SplitTaken = record { split = s; side = Low } in
      let high_taken : SplitTaken = record { split = s; side = High } in
      let low_path = path_at paths i ++ low_taken ∷ [] in
      let high_path = path_at paths i ++ high_taken ∷ [] in
      let ways = map-append (λ (z : SplitTaken). z.side) (path_at paths i) in
      let many = forked_count refs i r in
      let many_low = refs_count entry (suc n) k low news in
      let many_paths : length longer ≡ length paths + 2 = length-append paths (low_path ∷ high_path ∷ []) in
      let each = are.each in
      let t1 = replaced t w (Divided s (AtLeaf (Todo tt)) (AtLeaf (Todo tt))) in
      let both : AreNodes node t1 longer news =
      forked node t paths longer refs news i r Again Again leaf (Todo tt) (Todo tt) s are less is_leaf (split n k ∙ ap slot_or_todo (root_there slots n (Divided s low high) b)) refl again again refl refl in
      let low_ref : ref_at news k ≡ Again = get_or_at (set refs i r) Again (Again ∷ []) Again k (length-set refs i r) in
      let high_ref : ref_at news (suc k) ≡ Again = second_at (set refs i r) Again Again Again k (length-set refs i r) in
      let low_way : way_of (path_at longer k) ≡ w ++ Low ∷ [] = ap way_of (get_or_at paths low_path (high_path ∷ []) [] k each) ∙ ways (low_taken ∷ []) in
      let first = placed (suc n) low (low_begins slots n s low high b) t1 longer news k (Todo tt) both (omega (arith, many)) (ap node low_ref ∙ again) in
      let t2 = replaced t1 (w ++ Low ∷ []) low in
      let lows = paths_with k low longer in
      let refs2 = refs_with entry (suc n) k low news in
      let first_at : AreNodes node t2 lows refs2 = subst (λ v. AreNodes node (replaced t1 v low) lows refs2) low_way first in
      let high_way : way_of (path_at lows (suc k)) ≡ w ++ High ∷ [] = ap way_of (path_stays k low longer (suc k) (omega (arith, each, many_paths)) ∙ second_at paths low_path high_path [] k each) ∙ ways (high_taken ∷ []) in
      let high_again : ref_at refs2 (suc k) ≡ Again = ref_stays entry (suc n) k low news (suc k) (omega (arith, many)) (λ e. next k e) ∙ high_ref in
      let second = placed (suc n + length (slots_of low)) high (high_begins slots n s low high b) t2 lows refs2 (suc k) (Todo tt) first_at (omega (arith, many, many_low)) (ap node high_again ∙ again) in
      let refs3 = refs_with entry (suc n + length (slots_of low)) (suc k) high refs2 in
      let whole : AreNodes node (replaced t w (Divided s low high)) (paths_with (suc k) high lows) refs3 =
      subst (λ v. AreNodes node v (paths_with (suc k) high lows) refs3) (ap (λ v. replaced t2 v high) high_way ∙ sides_put t w s (AtLeaf (Todo tt)) (AtLeaf (Todo tt)) low high) second in
      subst (λ m. AreNodes node (replaced t w (Divided s low high)) (paths_with (suc m) high (paths_with m low longer)) refs3) (sym each) whole
    where
      next : (k : ℕ) → ¬ (suc k ≡ k)
      next k e = omega arith
