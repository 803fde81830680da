-- A tree may be put where the log tells that it may.
use Rattle.std.proofs.Common.{ℕ, ◌≡◌, List, [], ◌∷◌, ◌++◌, Some, None, refl, sym, ap, ◌∙◌, subst, append_assoc}
use Rattle.verdicts.specs.Certificate.{Side as SideOf}
use Rattle.certificate.specs.declared.split.Side.{Side}
use Rattle.search_tree.specs.declared.leaf.Lease.{Lease}
use Rattle.search_tree.specs.declared.leaf.Leaf.TheVariants.{Leased}
use Rattle.search_tree.specs.declared.event.Entry.{Entry}
use Rattle.search_tree.specs.Tree.{Tree, AtLeaf, at_place, sides_to, AllSplits}
use Rattle.search_tree.specs.Nodes.{IsWorthwhile}
use Rattle.search_tree.specs.Board.{Board}
use Rattle.search_tree.specs.Steps.{IsHistory, IsSound, MayGraft, opening}
use Rattle.search_tree.proofs.Laws.{replay_kept}
use Rattle.board_pool.specs.Searches.{IsOfSearch}
use Rattle.board_pool.specs.OpenLeases.{lease_to, IsOpenFor, IsLeasedBelow}
use Rattle.board_pool.specs.Grafts.{MayBePut, with_log}
use Rattle.board_pool.proofs.LeafStays.{history_leaves, history_parts, open_lease_is_there}
use Rattle.board_pool.proofs.OneHistory.{StepsKeep, one_history}

pub same_opening : (first b : Board) → IsOfSearch first b → opening b ≡ opening first
same_opening first b of i = record {
  problem = of.problem i;
  cuts = of.cuts i;
  split_limit = of.split_limit i;
  pivot_limit = of.pivot_limit i;
  tree = (opening b).tree;
  best = None;
  log = [];
}

-- the leased leaf stands on the board, below the splits below which it was leased
leased_there : StepsKeep → (first b : Board) (spans : List (ℕ × ℕ)) (lease : Lease) (sides : List SideOf) → IsOfSearch first b → (l : IsLeasedBelow first spans b.log lease sides)
    → (at_place b.tree l.way ≡ Some (AtLeaf (Leased lease))) × (sides ≡ sides_to b.tree l.way [])
leased_there step_kept first b spans lease sides of l =
    let o = l.is_open in
    let entry = lease_to o.seat l.way lease in
    let start = opening b in
    let is_log : b.log ≡ (o.before ++ entry ∷ []) ++ o.since = o.is_log ∙ sym (append_assoc o.before (entry ∷ []) o.since) in
    let parts = history_parts start b (o.before ++ entry ∷ []) o.since (subst (λ (log : List Entry). IsHistory start log b) is_log of.replay.history) in
    let at_lease : IsOpenFor spans (o.before ++ entry ∷ []) l.way lease = record { seat = o.seat; before = o.before; since = []; is_log = refl; number = o.number; has = o.has; not_ended = tt } in
    let there = open_lease_is_there start parts.0 spans (o.before ++ entry ∷ []) l.way lease parts.1 at_lease in
    let stays = history_leaves parts.0 b o.since l.way lease parts.2 there o.not_ended in
    let history = subst (λ (x : Board). IsHistory x (o.before ++ entry ∷ []) l.given) (sym (same_opening first b of)) l.history in
    let same = one_history step_kept start l.given parts.0 (o.before ++ entry ∷ []) (replay_kept start (record { cuts = of.replay.cuts; history = refl })) history parts.1 in
    (stays.0, l.is_below ∙ (ap (λ (x : Board). sides_to x.tree l.way []) same ∙ sym (stays.1 [])))

-- a tree is sound on each board of the search with this log
sound_there : (first b : Board) (sides : List SideOf) (t : Tree) → IsOfSearch first b → IsSound (with_log first b.log) sides t → IsSound b sides t
sound_there first b sides t of s = record {
  splits = rw (of.problem, of.cuts) s.splits;
  goal = s.goal;
  is_told = s.is_told;
  leaves = rw (of.problem, of.cuts, of.pivot_limit) s.leaves;
  none_leased = s.none_leased;
}

pub may_graft : StepsKeep → (first b : Board) (spans : List (ℕ × ℕ)) (lease : Lease) (t : Tree) → IsOfSearch first b → MayBePut first spans b.log lease t → (way : List Side) × MayGraft b way lease t
may_graft step_kept first b spans lease t of m =
    let there = leased_there step_kept first b spans lease m.sides of m.is_leased in (
      m.is_leased.way,
      record {
        is_leased = there.0;
        sound = subst (λ (sides : List SideOf). IsSound b sides t) there.1 (sound_there first b m.sides t of m.sound);
        within = m.within;
        worthwhile = subst (λ (sides : List SideOf). AllSplits (λ at s. IsWorthwhile b.problem b.cuts lease.best at) sides t) there.1 (rw (of.problem, of.cuts) m.worthwhile);
      },
    )
