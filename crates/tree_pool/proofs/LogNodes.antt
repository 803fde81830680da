-- A longer log leaves the nodes as they are, and holds those of a tree that it puts in.
use Rattle.std.proofs.Common.{◌≡◌, ◌∙◌, ℕ, zero, suc, ◌<◌, List, [], ◌∷◌, ◌++◌, length, refl, ap, Some, slice_get, arith}
use Rattle.search_tree.specs.declared.event.Entry.{Entry}
use Rattle.tree_pool.specs.declared.refs.NodeRef.{NodeRef}
use Rattle.tree_pool.specs.declared.refs.NodeRef.TheVariants.{Again, Under, Held, Forked}
use Rattle.tree_pool.specs.LogNodes.{put_in, leased_in, slot_or_todo, node_at, IsInLog, AllInLog}
use Rattle.tree_pool.specs.Standing.{ref_at}

pub same_entry : (log more : List Entry) (n : ℕ) → n < length log → slice_get (log ++ more) n ≡ slice_get log n
same_entry [] more n h = absurd (omega arith)
same_entry (e ∷ log) more zero h = refl
same_entry (e ∷ log) more (suc n) h = same_entry log more n (omega arith)

same_node : (log more : List Entry) (r : NodeRef) → IsInLog (length log) r → node_at (log ++ more) r ≡ node_at log r
same_node log more Again h = refl
same_node log more (Under entry) h = ap leased_in (same_entry log more entry h)
same_node log more (Held entry n) h = ap (λ e. slot_or_todo (slice_get (put_in e) n)) (same_entry log more entry h)
same_node log more (Forked entry n low) h = ap (λ e. slot_or_todo (slice_get (put_in e) n)) (same_entry log more entry h)

in_log_at : (n : ℕ) (refs : List NodeRef) (p : ℕ) → AllInLog n refs → p < length refs → IsInLog n (ref_at refs p)
in_log_at n [] p h less = absurd (omega arith)
in_log_at n (r ∷ refs) zero h less = h.0
in_log_at n (r ∷ refs) (suc p) h less = in_log_at n refs p h.1 (omega arith)

pub same_at : (log more : List Entry) (e : Entry) (refs : List NodeRef) (p : ℕ) → more ≡ log ++ e ∷ [] → AllInLog (length log) refs → p < length refs → node_at more (ref_at refs p) ≡ node_at log (ref_at refs p)
same_at log more e refs p is_more within less = ap (λ es. node_at es (ref_at refs p)) is_more ∙ same_node log (e ∷ []) (ref_at refs p) (in_log_at (length log) refs p within less)

pub last_entry : (log : List Entry) (e : Entry) → slice_get (log ++ e ∷ []) (length log) ≡ Some e
last_entry [] e = refl
last_entry (d ∷ log) e = last_entry log e

pub entry_at : (log more : List Entry) (e : Entry) (count : ℕ) → more ≡ log ++ e ∷ [] → count ≡ length log → slice_get more count ≡ Some e
entry_at log more e count is_more is_count = ap (λ es. slice_get es count) is_more ∙ ap (slice_get (log ++ e ∷ [])) is_count ∙ last_entry log e
