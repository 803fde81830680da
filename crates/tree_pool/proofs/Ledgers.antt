-- A log with the nodes of the tree that it leads to, after one more entry.
use Rattle.std.proofs.Common.{◌≡◌, ◌∙◌, ℕ, zero, suc, ◌+◌, ◌<◌, ◌≤◌, List, [], ◌∷◌, ◌++◌, Bool, true, false, set, length, length-append, refl, sym, ap, subst, cond, Option, Some, None, IfSome, slice_get, append-nil, arith}
use Rattle.rational.specs.Rational.{Rational}
use Rattle.certificate.specs.declared.split.Side.{Side}
use Rattle.search_node.specs.declared.node.SplitTaken.{SplitTaken}
use Rattle.search_tree.specs.declared.leaf.Lease.{Lease}
use Rattle.search_tree.specs.declared.leaf.Leaf.TheVariants.{Todo, Leased}
use Rattle.search_tree.specs.declared.leaf.Slot.{Slot}
use Rattle.search_tree.specs.declared.leaf.Slot.TheVariants as slot
use Rattle.search_tree.specs.declared.event.Event.TheVariants.{Leasing, Grafting}
use Rattle.search_tree.specs.declared.event.Reply.{Reply}
use Rattle.search_tree.specs.declared.event.Reply.TheVariants.{Given}
use Rattle.search_tree.specs.declared.event.Entry.{Entry}
use Rattle.search_tree.specs.Slots.{slots_of}
use Rattle.search_tree.specs.Tree.{Tree, Divided, AtLeaf, at_place, replaced, leased_under}
use Rattle.tree_pool.specs.declared.refs.NodeRef.{NodeRef}
use Rattle.tree_pool.specs.declared.refs.NodeRef.TheVariants.{Again, Under, Held, Forked}
use Rattle.tree_pool.specs.declared.kind.Kind.TheVariants as kind
use Rattle.tree_pool.specs.LogNodes.{leased_in, put_in, slot_or_todo, node_at, IsInLog, AllInLog}
use Rattle.tree_pool.specs.Paths.{path_at}
use Rattle.tree_pool.specs.Standing.{way_of, ref_at, AreNodes}
use Rattle.tree_pool.specs.Placed.{refs_with, paths_with}
use Rattle.tree_pool.specs.Grown.{tree_by, grown, tree_after}
use Rattle.tree_pool.specs.Ledger.{Ledger, offered_by, offered_in, best_at, IsPlaceOf, IsTaken}
use Rattle.tree_pool.proofs.KindLemmas.{todo_slot, under_slot}
use Rattle.tree_pool.proofs.LogNodes.{same_entry, last_entry, entry_at, same_at}
use Rattle.tree_pool.proofs.Standing.{leaf_on, relabelled, read_anew}
use Rattle.tree_pool.proofs.Placed.{placed}
use Rattle.tree_pool.proofs.Unders.{put_is}

-- ---- references

more_in_log : (m n : ℕ) (r : NodeRef) → m ≤ n → IsInLog m r → IsInLog n r
more_in_log m n Again h k = tt
more_in_log m n (Under entry) h k = omega arith
more_in_log m n (Held entry i) h k = omega arith
more_in_log m n (Forked entry i low) h k = omega arith

all_more_in_log : (m n : ℕ) (refs : List NodeRef) → m ≤ n → AllInLog m refs → AllInLog n refs
all_more_in_log m n [] h k = tt
all_more_in_log m n (r ∷ refs) h k = (more_in_log m n r h k.0, all_more_in_log m n refs h k.1)

set_in_log : (n : ℕ) (refs : List NodeRef) (i : ℕ) (r : NodeRef) → AllInLog n refs → IsInLog n r → AllInLog n (set refs i r)
set_in_log n [] i r h k = tt
set_in_log n (q ∷ refs) zero r h k = (k, h.1)
set_in_log n (q ∷ refs) (suc i) r h k = (h.0, set_in_log n refs i r h.1 k)

both_in_log : (n : ℕ) (refs more : List NodeRef) → AllInLog n refs → AllInLog n more → AllInLog n (refs ++ more)
both_in_log n [] more h k = k
both_in_log n (r ∷ refs) more h k = (h.0, both_in_log n refs more h.1 k)

-- ---- the tree after one more entry

pub longer : (log more : List Entry) (e : Entry) → more ≡ log ++ e ∷ [] → length log + 1 ≡ length more
longer log more e h = let l = length-append log (e ∷ []) in let k = ap length h in omega arith

grown_more : (t : Tree) (log : List Entry) (e : Entry) → grown t (log ++ e ∷ []) ≡ tree_by e.event e.reply (grown t log)
grown_more t [] e = refl
grown_more t (d ∷ log) e = grown_more (tree_by d.event d.reply t) log e

pub tree_more : (log more : List Entry) (e : Entry) → more ≡ log ++ e ∷ [] → tree_after more ≡ tree_by e.event e.reply (tree_after log)
tree_more log more e h = ap tree_after h ∙ grown_more (AtLeaf (Todo tt)) log e

pub all_later : (log more : List Entry) (e : Entry) (refs : List NodeRef) → more ≡ log ++ e ∷ [] → AllInLog (length log) refs → AllInLog (length more) refs
all_later log more e refs h within = let l = longer log more e h in all_more_in_log (length log) (length more) refs (omega arith) within

later : (log more : List Entry) (e : Entry) (t : Tree) (paths : List (List SplitTaken)) (refs : List NodeRef) → more ≡ log ++ e ∷ [] → AllInLog (length log) refs → AreNodes (node_at log) t paths refs → AreNodes (node_at more) t paths refs
later log more e t paths refs is_more within are = read_anew (node_at log) (node_at more) t paths refs are (λ p less. same_at log more e refs p is_more within less)

-- the same log in another place of memory
pub unchanged : (log more : List Entry) (paths : List (List SplitTaken)) (refs : List NodeRef) (best : Option ℕ) → more ≡ log → AreNodes (node_at log) (tree_after log) paths refs × AllInLog (length log) refs × IfSome best (λ n. n < length log)
    → AreNodes (node_at more) (tree_after more) paths refs × AllInLog (length more) refs × IfSome best (λ n. n < length more)
unchanged log more paths refs best e h = subst (λ l. AreNodes (node_at l) (tree_after l) paths refs × AllInLog (length l) refs × IfSome best (λ n. n < length l)) (sym e) h

-- the same log, paths and nodes in other places of memory
pub same_parts : (log more : List Entry) (paths others : List (List SplitTaken)) (refs news : List NodeRef) (best : Option ℕ) → more ≡ log → others ≡ paths → news ≡ refs → AreNodes (node_at log) (tree_after log) paths refs × AllInLog (length log) refs × IfSome best (λ n. n < length log)
    → AreNodes (node_at more) (tree_after more) others news × AllInLog (length more) news × IfSome best (λ n. n < length more)
same_parts log more paths others refs news best e f g h =
    subst (λ ps. AreNodes (node_at more) (tree_after more) ps news × AllInLog (length more) news × IfSome best (λ n. n < length more)) (sym f)
    (subst (λ rs. AreNodes (node_at more) (tree_after more) paths rs × AllInLog (length more) rs × IfSome best (λ n. n < length more)) (sym g) (unchanged log more paths refs best e h))

-- an entry that leaves the tree as it is, or makes this one of it
pub nodes_after : (log more : List Entry) (e : Entry) (u : Tree) (paths : List (List SplitTaken)) (refs : List NodeRef) → more ≡ log ++ e ∷ [] → tree_by e.event e.reply (tree_after log) ≡ u → AllInLog (length log) refs → AreNodes (node_at log) u paths refs
    → AreNodes (node_at more) (tree_after more) paths refs
nodes_after log more e u paths refs is_more is_tree within are = subst (λ t. AreNodes (node_at more) t paths refs) (sym (tree_more log more e is_more ∙ is_tree)) (later log more e u paths refs is_more within are)

-- a leaf is leased
pub leased_nodes : (log more : List Entry) (seat : ℕ) (way : List Side) (lease : Lease) (paths : List (List SplitTaken)) (refs : List NodeRef) (place count : ℕ) → more ≡ log ++ record { event = Leasing seat; reply = Given way lease } ∷ [] → count ≡ length log
    → way ≡ way_of (path_at paths place) → AllInLog (length log) refs → AreNodes (node_at log) (tree_after log) paths refs → IsPlaceOf kind.ToDo log refs place → AreNodes (node_at more) (tree_after more) paths (set refs place (Under count))
leased_nodes log more seat way lease paths refs place count is_more is_count is_way within are at =
    let e : Entry = record { event = Leasing seat; reply = Given way lease } in
    let t = tree_after log in
    let found = todo_slot (node_at log (ref_at refs place)) at.is_kind in
    let new : node_at more (Under count) ≡ slot.Leaf (Leased lease) = ap leased_in (entry_at log more e count is_more is_count) in
    let is_tree : tree_after more ≡ replaced t (way_of (path_at paths place)) (AtLeaf (Leased lease)) = tree_more log more e is_more ∙ ap (λ w. replaced t w (AtLeaf (Leased lease))) is_way in
    subst (λ u. AreNodes (node_at more) u paths (set refs place (Under count))) (sym is_tree)
    (relabelled (node_at more) t paths refs place (Under count) found.leaf (Leased lease) (later log more e t paths refs is_more within are) at.within (same_at log more e refs place is_more within at.within ∙ found.is_slot) new)

pub leased_in_log : (log more : List Entry) (e : Entry) (refs : List NodeRef) (place count : ℕ) → more ≡ log ++ e ∷ [] → count ≡ length log → AllInLog (length log) refs → AllInLog (length more) (set refs place (Under count))
leased_in_log log more e refs place count is_more is_count within =
    let l = longer log more e is_more in
    set_in_log (length more) refs place (Under count) (all_more_in_log (length log) (length more) refs (omega arith) within) (omega arith)

pub leased_is : (log more : List Entry) (seat : ℕ) (way : List Side) (lease : Lease) (paths : List (List SplitTaken)) (refs : List NodeRef) (place : ℕ) (best : Option ℕ) → more ≡ log ++ record { event = Leasing seat; reply = Given way lease } ∷ []
    → way ≡ way_of (path_at paths place) → AreNodes (node_at log) (tree_after log) paths refs → IsPlaceOf kind.ToDo log refs place → best_at more best ≡ best_at log best
    → IsTaken (record { log = log; tree = tree_after log; best = best_at log best }) seat lease (record { log = more; tree = tree_after more; best = best_at more best })
leased_is log more seat way lease paths refs place best is_more is_way are at is_best =
    let found = todo_slot (node_at log (ref_at refs place)) at.is_kind in
    record {
      way = way;
      leaf = found.leaf;
      is_todo = found.is_todo;
      there = ap (at_place (tree_after log)) is_way ∙ leaf_on (node_at log) (tree_after log) paths refs place found.leaf are at.within found.is_slot;
      log = is_more;
      tree = tree_more log more (record { event = Leasing seat; reply = Given way lease }) is_more;
      best = is_best;
    }

-- the leaf that is leased under a number, on its way
pub record IsLeasedOn (t : Tree) (way : List Side) (n : ℕ) (node : Slot) : Type 0 where
  pub lease : Lease
  pub is_under : lease.number ≡ n
  pub is_node : node ≡ slot.Leaf (Leased lease)
  pub there : at_place t way ≡ Some (AtLeaf (Leased lease))

pub leased_on : (log : List Entry) (t : Tree) (paths : List (List SplitTaken)) (refs : List NodeRef) (place n : ℕ) → AreNodes (node_at log) t paths refs → IsPlaceOf (kind.LeasedUnder n) log refs place → IsLeasedOn t (way_of (path_at paths place)) n (node_at log (ref_at refs place))
leased_on log t paths refs place n are at =
    let found = under_slot (node_at log (ref_at refs place)) n at.is_kind in
    record { lease = found.lease; is_under = found.is_number; is_node = found.is_slot; there = leaf_on (node_at log) t paths refs place (Leased found.lease) are at.within found.is_slot }

-- a tree is put in its place
put_tree : (log more : List Entry) (seat : ℕ) (lease : Lease) (u : Tree) (reply : Reply) (paths : List (List SplitTaken)) (refs : List NodeRef) (place : ℕ) → more ≡ log ++ record { event = Grafting seat lease u; reply = reply } ∷ []
    → leased_under lease.number (tree_after log) ≤ 1 → AreNodes (node_at log) (tree_after log) paths refs → IsPlaceOf (kind.LeasedUnder lease.number) log refs place → tree_after more ≡ replaced (tree_after log) (way_of (path_at paths place)) u
put_tree log more seat lease u reply paths refs place is_more one are at =
    let found = leased_on log (tree_after log) paths refs place lease.number are at in
    tree_more log more (record { event = Grafting seat lease u; reply = reply }) is_more ∙ put_is (tree_after log) (way_of (path_at paths place)) found.lease lease.number u found.there found.is_under one

pub put_nodes : (log more : List Entry) (seat : ℕ) (lease : Lease) (u : Tree) (reply : Reply) (paths others : List (List SplitTaken)) (refs news : List NodeRef) (place count : ℕ) → more ≡ log ++ record { event = Grafting seat lease u; reply = reply } ∷ [] → count ≡ length log
    → leased_under lease.number (tree_after log) ≤ 1 → AllInLog (length log) refs → AreNodes (node_at log) (tree_after log) paths refs → IsPlaceOf (kind.LeasedUnder lease.number) log refs place
    → news ≡ refs_with count 0 place u refs → others ≡ paths_with place u paths → AreNodes (node_at more) (tree_after more) others news
put_nodes log more seat lease u reply paths others refs news place count is_more is_count one within are at are_news are_others =
    let e : Entry = record { event = Grafting seat lease u; reply = reply } in
    let t = tree_after log in
    let found = leased_on log t paths refs place lease.number are at in
    let put : put_in (slice_get more count) ≡ slots_of u = ap put_in (entry_at log more e count is_more is_count) in
    let read : (n : ℕ) → node_at more (Held count n) ≡ slot_or_todo (slice_get (slots_of u) n) = λ n. ap (λ xs. slot_or_todo (slice_get xs n)) put in
    let whole = placed (node_at more) count (slots_of u) refl read (λ n low. read n) 0 u (record { rest = []; is = sym (append-nil (slots_of u)) }) t paths refs place (Leased found.lease)
    (later log more e t paths refs is_more within are) at.within (same_at log more e refs place is_more within at.within ∙ found.is_node) in
    subst (λ v. AreNodes (node_at more) v others news) (sym (put_tree log more seat lease u reply paths refs place is_more one are at))
    (subst (λ ps. AreNodes (node_at more) (replaced t (way_of (path_at paths place)) u) ps news) (sym are_others) (subst (λ rs. AreNodes (node_at more) (replaced t (way_of (path_at paths place)) u) (paths_with place u paths) rs) (sym are_news) whole))

with_in_log : (m entry n i : ℕ) (t : Tree) (refs : List NodeRef) → entry < m → AllInLog m refs → AllInLog m (refs_with entry n i t refs)
with_in_log m entry n i (AtLeaf leaf) refs less within = set_in_log m refs i (Held entry n) within less
with_in_log m entry n i (Divided s low high) refs less within =
    let r = Forked entry n (length refs) in
    let news = set refs i r ++ Again ∷ Again ∷ [] in
    with_in_log m entry (suc n + length (slots_of low)) (suc (length refs)) high (refs_with entry (suc n) (length refs) low news) less
    (with_in_log m entry (suc n) (length refs) low news less (both_in_log m (set refs i r) (Again ∷ Again ∷ []) (set_in_log m refs i r within less) (tt, (tt, tt))))

pub put_in_log : (log more : List Entry) (e : Entry) (u : Tree) (refs news : List NodeRef) (place count : ℕ) → more ≡ log ++ e ∷ [] → count ≡ length log → news ≡ refs_with count 0 place u refs → AllInLog (length log) refs → AllInLog (length more) news
put_in_log log more e u refs news place count is_more is_count are_news within =
    let l = longer log more e is_more in
    subst (λ rs. AllInLog (length more) rs) (sym are_news) (with_in_log (length more) count 0 place u refs (omega arith) (all_more_in_log (length log) (length more) refs (omega arith) within))

-- ---- the best point

pub same_best : (log more : List Entry) (e : Entry) (best : Option ℕ) → more ≡ log ++ e ∷ [] → IfSome best (λ n. n < length log) → best_at more best ≡ best_at log best
same_best log more e None h k = refl
same_best log more e (Some n) h k = ap (λ es. offered_in (slice_get es n)) h ∙ ap offered_in (same_entry log (e ∷ []) n k)

pub best_in_log : (log more : List Entry) (e : Entry) (best : Option ℕ) → more ≡ log ++ e ∷ [] → IfSome best (λ n. n < length log) → IfSome best (λ n. n < length more)
best_in_log log more e None h k = tt
best_in_log log more e (Some n) h k = let l = longer log more e h in omega arith

pub new_best : (log more : List Entry) (e : Entry) (best new : Option ℕ) (better : Bool) (x : List Rational) (count : ℕ) → more ≡ log ++ e ∷ [] → count ≡ length log → offered_by e.event ≡ Some x → new ≡ cond better (Some count) best → IfSome best (λ n. n < length log)
    → (best_at more new ≡ cond better (Some x) (best_at log best)) × IfSome new (λ n. n < length more)
new_best log more e best new true x count is_more is_count offers is_new within =
    let l = longer log more e is_more in
    let here : slice_get more count ≡ Some e = ap (λ es. slice_get es count) is_more ∙ ap (slice_get (log ++ e ∷ [])) is_count ∙ last_entry log e in
    let P : Option ℕ → Type 0 = λ o. IfSome o (λ n. n < length more) in
    (ap (best_at more) is_new ∙ ap offered_in here ∙ offers, subst P (sym is_new) (omega arith))
new_best log more e best new false x count is_more is_count offers is_new within =
    let P : Option ℕ → Type 0 = λ o. IfSome o (λ n. n < length more) in
    (ap (best_at more) is_new ∙ same_best log more e best is_more within, subst P (sym is_new) (best_in_log log more e best is_more within))

abbrev pub ledger_of : List Entry → Tree → Option (List Rational) → Ledger
ledger_of log tree best = record { log = log; tree = tree; best = best }

pub same_ledger : (log more : List Entry) (t u : Tree) (a b : Option (List Rational)) → more ≡ log → u ≡ t → b ≡ a → ledger_of more u b ≡ ledger_of log t a
same_ledger log more t u a b e f g = rw (e, f, g) refl
