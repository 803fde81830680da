-- Each call on the board is one event of the machine.
use Rattle.std.proofs.Common.{ℕ, ◌≡◌, List, [], ◌∷◌, ◌++◌, Option, Some, slice_get, refl, sym, ap, ◌∙◌, subst, inl, ⊎_elim, append-nil}
use Rattle.rational.specs.Rational.{Rational}
use Rattle.search_tree.specs.declared.leaf.Lease.{Lease}
use Rattle.search_tree.specs.declared.event.Event.{Event}
use Rattle.search_tree.specs.declared.event.Event.TheVariants.{Leasing, Idling, Grafting, Offering}
use Rattle.search_tree.specs.declared.event.Reply.{Reply}
use Rattle.search_tree.specs.declared.event.Reply.TheVariants.{Given, StillLeased, Best}
use Rattle.search_tree.specs.declared.event.Entry.{Entry}
use Rattle.certificate.specs.declared.split.Side.{Side}
use Rattle.certificate.specs.declared.split.Side.TheVariants.{Low, High}
use Rattle.search_tree.specs.Tree.{Tree, Divided, AtLeaf, replaced}
use Rattle.search_tree.specs.Board.{Board, after}
use Rattle.search_tree.specs.Steps.{IsReplay, IsGraft, IsOffer}
use Rattle.turn_pool.specs.Logs.{IsIn, Has}
use Rattle.turn_pool.specs.Events.{IsOneMore}
use Rattle.board_pool.specs.declared.asked.Asked.{Asked}
use Rattle.board_pool.specs.declared.asked.Asked.TheVariants.{Leased, Idle}
use Rattle.board_pool.specs.Asks.{IsAsked}
use Rattle.board_pool.specs.Stuck.{NoneStuck}
use Rattle.board_pool.specs.Touched.{touched, leased_at}
use Rattle.board_pool.specs.Searches.{log_of, IsOfSearch}
use Rattle.board_pool.specs.OpenLeases.{lease_to}
use Rattle.board_pool.specs.Grafts.{MayBePut}
use Rattle.board_pool.specs.LeasesStay.{entry_behind}

-- no leaf is stuck where a tree without such a leaf is put
unstuck_replaced : (t : Tree) (way : List Side) (u : Tree) → NoneStuck t → NoneStuck u → NoneStuck (replaced t way u)
unstuck_replaced (Divided s low high) [] u h k = k
unstuck_replaced (AtLeaf leaf) [] u h k = k
unstuck_replaced (AtLeaf leaf) (side ∷ way) u h k = h
unstuck_replaced (Divided s low high) (Low ∷ way) u h k = (unstuck_replaced low way u h.0 k, h.1)
unstuck_replaced (Divided s low high) (High ∷ way) u h k = (h.0, unstuck_replaced high way u h.1 k)

-- one more entry, which touches numbers in the spans alone, on a board of the same search
once : (spans : List (ℕ × ℕ)) (seat : ℕ) (first b c : Board) (t : Tree) (best : Option (List Rational)) (event : Event) (reply : Reply) → IsOfSearch first b → NoneStuck t → c ≡ after b t best event reply → IsReplay c
    → IsIn (touched b.log (record { event = event; reply = reply })) seat → ((k : ℕ) → IsIn (touched b.log (record { event = event; reply = reply })) k → Has spans k)
    → IsOneMore touched log_of IsOfSearch spans seat first b c
once spans seat first b c t best event reply of unstuck new replay own within = record {
  entry = record { event = event; reply = reply };
  longer = ap (λ (x : Board). x.log) new;
  own = own;
  within = within;
  replay = record {
    problem = ap (λ (x : Board). x.problem) new ∙ of.problem;
    cuts = ap (λ (x : Board). x.cuts) new ∙ of.cuts;
    split_limit = ap (λ (x : Board). x.split_limit) new ∙ of.split_limit;
    pivot_limit = ap (λ (x : Board). x.pivot_limit) new ∙ of.pivot_limit;
    none_stuck = subst NoneStuck (sym (ap (λ (x : Board). x.tree) new)) unstuck;
    replay = replay;
  };
}

own_alone : (spans : List (ℕ × ℕ)) (seat : ℕ) → Has spans seat → (k : ℕ) → IsIn (seat ∷ []) k → Has spans k
own_alone spans seat has k = ⊎_elim (λ (e : k ≡ seat). subst (Has spans) (sym e) has) (λ (z : ⊥). absurd z)

pub asks_once : (spans : List (ℕ × ℕ)) (seat : ℕ) (first b c : Board) (asked : Asked) → Has spans seat → IsOfSearch first b → IsAsked b seat asked c → IsReplay c → IsOneMore touched log_of IsOfSearch spans seat first b c
asks_once spans seat first b c (Leased leaf) has of a replay = once spans seat first b c _ _ (Leasing seat) (Given a.0 leaf.lease) of (unstuck_replaced b.tree a.0 _ of.none_stuck tt) a.1.new replay (inl refl) (own_alone spans seat has)
asks_once spans seat first b c (Idle count) has of a replay = once spans seat first b c _ _ (Idling seat) (StillLeased count) of of.none_stuck a.new replay (inl refl) (own_alone spans seat has)

pub offers_once : (spans : List (ℕ × ℕ)) (seat : ℕ) (first b c : Board) (x : List Rational) (best : Option Rational) → Has spans seat → IsOfSearch first b → IsOffer b seat x best c → IsReplay c → IsOneMore touched log_of IsOfSearch spans seat first b c
offers_once spans seat first b c x best has of o replay = once spans seat first b c _ _ (Offering seat x) (Best best) of of.none_stuck o.new replay (inl refl) (own_alone spans seat has)

-- the entry that gave the lease stands in the log at its number
entry_of_lease : (first b : Board) (spans : List (ℕ × ℕ)) (lease : Lease) (t : Tree) (m : MayBePut first spans b.log lease t) → slice_get b.log lease.number ≡ Some (lease_to m.is_leased.is_open.seat m.is_leased.way lease)
entry_of_lease first b spans lease t m =
    let o = m.is_leased.is_open in
    let entry = lease_to o.seat m.is_leased.way lease in
    let is_log : b.log ≡ (o.before ++ entry ∷ o.since) ++ [] = o.is_log ∙ sym (append-nil _) in
    ap (λ (log : List Entry). slice_get log lease.number) is_log ∙ (ap (slice_get _) o.number ∙ entry_behind o.before o.since [] entry)

pub grafts_once : (spans : List (ℕ × ℕ)) (seat : ℕ) (first b c : Board) (lease : Lease) (t : Tree) (best : Option Rational) → Has spans seat → IsOfSearch first b → MayBePut first spans b.log lease t → IsGraft b seat lease t best c
    → IsReplay c → IsOneMore touched log_of IsOfSearch spans seat first b c
grafts_once spans seat first b c lease t best has of m g replay =
    let o = m.is_leased.is_open in
    let found = entry_of_lease first b spans lease t m in
    once spans seat first b c _ _ (Grafting seat lease t) (Best best) of (unstuck_replaced b.tree g.way t of.none_stuck m.none_stuck) g.new replay (inl refl)
    (λ k. ⊎_elim (λ (e : k ≡ seat). subst (Has spans) (sym e) has) (λ h. own_alone spans o.seat o.has k (subst (λ (e : Option Entry). IsIn (leased_at e) k) found h)))
