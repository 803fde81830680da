-- Leased leaves that are to be worked on again.
use Rattle.std.proofs.Common.{◌≡◌, ◌∙◌, ℕ, Bool, true, false, cond, List, [], ◌∷◌, ◌<◌, map, length, refl, ap}
use Rattle.std.proofs.lemmas.List.{length-map, get_or-map}
use Rattle.verdicts.specs.Certificate.{Split}
use Rattle.search_node.specs.declared.node.SplitTaken.{SplitTaken}
use Rattle.search_tree.specs.declared.leaf.Leaf.TheVariants.{Todo, Treated, Leased, Refuted, Bounded, NotFitting, AtLimit}
use Rattle.search_tree.specs.declared.leaf.Slot.{Slot}
use Rattle.search_tree.specs.declared.leaf.Slot.TheVariants as slot
use Rattle.search_tree.specs.declared.event.Entry.{Entry}
use Rattle.search_tree.specs.Tree.{Tree, reclaimed}
use Rattle.tree_pool.specs.declared.refs.NodeRef.{NodeRef}
use Rattle.tree_pool.specs.declared.refs.NodeRef.TheVariants.{Again}
use Rattle.tree_pool.specs.LogNodes.{node_at, IsInLog, AllInLog}
use Rattle.tree_pool.specs.Kinds.{kind_of}
use Rattle.tree_pool.specs.Standing.{ref_at, AreNodes}
use Rattle.tree_pool.specs.Ledger.{is_leased, given_back}
use Rattle.tree_pool.proofs.Standing.{slot_back, all_back}

node_back : (log : List Entry) (r : NodeRef) (s : Slot) → node_at log r ≡ s → node_at log (cond (is_leased (kind_of s)) Again r) ≡ slot_back s
node_back log r (slot.Divided s) h = h
node_back log r (slot.Leaf (Todo hint)) h = h
node_back log r (slot.Leaf (Treated hint)) h = h
node_back log r (slot.Leaf (Leased lease)) h = refl
node_back log r (slot.Leaf (Refuted w)) h = h
node_back log r (slot.Leaf (Bounded w)) h = h
node_back log r (slot.Leaf (NotFitting e)) h = h
node_back log r (slot.Leaf (AtLimit bases)) h = h

split_stays : (log : List Entry) (r : NodeRef) (s : Split) → node_at log r ≡ slot.Divided s → given_back log r ≡ r
split_stays log r s h = ap (λ x. cond (is_leased (kind_of x)) Again r) h

pub back_in_log : (log : List Entry) (n : ℕ) (refs : List NodeRef) → AllInLog n refs → AllInLog n (map (given_back log) refs)
back_in_log log n [] h = tt
back_in_log log n (r ∷ refs) h = (go (is_leased (kind_of (node_at log r))), back_in_log log n refs h.1)
  where
    go : (t : Bool) → IsInLog n (cond t Again r)
    go true = tt
    go false = h.0

pub reclaimed_nodes : (log : List Entry) (t : Tree) (paths : List (List SplitTaken)) (refs news : List NodeRef) → news ≡ map (given_back log) refs → AreNodes (node_at log) t paths refs → AreNodes (node_at log) (reclaimed t) paths news
reclaimed_nodes log t paths refs news are_news are =
    all_back (node_at log) t paths refs news are (ap length are_news ∙ length-map refs (given_back log))
    (λ p less. ap (node_at log) (read p less) ∙ node_back log (ref_at refs p) (node_at log (ref_at refs p)) refl)
    (λ p s less is_split. read p less ∙ split_stays log (ref_at refs p) s is_split)
  where
    read : (p : ℕ) → p < length refs → ref_at news p ≡ given_back log (ref_at refs p)
    read p less = ap (λ rs. ref_at rs p) are_news ∙ get_or-map (given_back log) refs p Again Again less
