-- Open leases from call to call.
use Rattle.std.proofs.Common.{ℕ, ◌≡◌, ◌+◌, ◌≤◌, List, [], ◌∷◌, ◌++◌, length, Option, Some, refl, sym, ap, subst}
use Rattle.std.specs.Option.{IfSome}
use Rattle.rational.specs.Rational.{Rational}
use Rattle.verdicts.specs.Certificate.{Side as SideOf}
use Rattle.search_tree.specs.declared.leaf.Lease.{Lease}
use Rattle.search_tree.specs.declared.event.Event.TheVariants.{Offering}
use Rattle.search_tree.specs.declared.event.Reply.TheVariants.{Best}
use Rattle.search_tree.specs.declared.event.Entry.{Entry}
use Rattle.search_tree.specs.declared.leaf.Leaf.TheVariants.{Leased as AtLease}
use Rattle.search_tree.specs.Tree.{Tree, AtLeaf, at_place, sides_to}
use Rattle.search_tree.specs.Board.{Board}
use Rattle.search_tree.specs.Steps.{IsHistory, IsLease, IsOffer, opening}
use Rattle.search_node.specs.Sides.{sides_of}
use Rattle.search_tree.specs.Honest.{IsHonestWay}
use Rattle.search_tree.specs.Kept.{IsKept}
use Rattle.search_tree.proofs.Laws.{replay_kept}
use Rattle.certificate.specs.declared.split.Side.{Side}
use Rattle.board_pool.specs.declared.asked.LeasedLeaf.{LeasedLeaf}
use Rattle.board_pool.specs.declared.asked.Asked.{Asked}
use Rattle.board_pool.specs.declared.asked.Asked.TheVariants.{Leased}
use Rattle.board_pool.specs.Asks.{IsAsked}
use Rattle.turn_pool.specs.declared.view.View.{View}
use Rattle.turn_pool.specs.Logs.{Has, GoesOn}
use Rattle.turn_pool.specs.Calls.{Called}
use Rattle.board_pool.specs.Touched.{touched}
use Rattle.board_pool.specs.Searches.{log_of, IsOfSearch}
use Rattle.board_pool.specs.OpenLeases.{lease_to, IsLeasedBelow}
use Rattle.board_pool.specs.LeasesStay.{none_ends, leased_behind}
use Rattle.board_pool.proofs.Grafts.{same_opening}
use Rattle.board_pool.proofs.LeafStays.{at_replaced}

-- the way to each place of a kept board is honest
abbrev WaysAreHonest : Type 0
WaysAreHonest = (b : Board) → IsKept b → (way : List Side) → IsHonestWay b.problem b.cuts b.split_limit (sides_to b.tree way [])

-- so it is on a board of a search, as the first board tells its problem
honest_on_board : WaysAreHonest → (first b : Board) → IsOfSearch first b → (way : List Side) → IsHonestWay first.problem first.cuts first.split_limit (sides_to b.tree way [])
honest_on_board honest first b of way = rw (sym of.problem, sym of.cuts, sym of.split_limit) (honest b (replay_kept b of.replay) way)

-- the way to a leased leaf leaves room for the splits that its lease grants
abbrev WaysLeaveRoom : Type 0
WaysLeaveRoom = (b : Board) → IsKept b → (way : List Side) (lease : Lease) → at_place b.tree way ≡ Some (AtLeaf (AtLease lease)) → length (sides_to b.tree way []) + lease.grant ≤ b.split_limit

-- so it is on a board on which the lease was given
room_on_board : WaysLeaveRoom → (first b c : Board) (seat : ℕ) (way : List Side) (lease : Lease) → IsLease b seat way lease c → IsOfSearch first c → length (sides_to c.tree way []) + lease.grant ≤ first.split_limit
room_on_board room first b c seat way lease l of =
    let there : at_place c.tree way ≡ Some (AtLeaf (AtLease lease)) = subst (λ (t : Tree). at_place t way ≡ Some (AtLeaf (AtLease lease))) (sym (ap (λ (d : Board). d.tree) l.new)) (at_replaced b.tree way (AtLeaf l.leaf) (AtLeaf (AtLease lease)) l.there) in
    subst (λ (limit : ℕ). length (sides_to c.tree way []) + lease.grant ≤ limit) of.split_limit (room c (replay_kept c of.replay) way lease there)

-- A lease that a pass was given is open for it, on an honest way, and the node that was told is that of the leaf. The limit leaves room
-- for the splits that it grants.
pub given_is_open : WaysAreHonest → WaysLeaveRoom → (v w : View Board Entry) (leaf : LeasedLeaf) → Called touched log_of IsOfSearch (λ seat b (asked : Asked) c. IsAsked b seat asked c) v (Leased leaf) w
    → (sides : List SideOf) × IsLeasedBelow v.key.first.value w.spans w.seen leaf.lease sides × IsHonestWay v.key.first.value.problem v.key.first.value.cuts v.key.first.value.split_limit sides × IfSome leaf.node (λ node. sides_of node.splits ≡ sides)
    × (length sides + leaf.lease.grant ≤ v.key.first.value.split_limit)
given_is_open honest room v w leaf c =
    let way = c.event.0 in
    let s = c.event.1 in
    let log_is : c.after.log ≡ c.before.log ++ lease_to v.own way leaf.lease ∷ [] = ap log_of s.new in
    let history : IsHistory (opening c.after) (c.before.log ++ lease_to v.own way leaf.lease ∷ []) c.after = subst (λ (log : List Entry). IsHistory (opening c.after) log c.after) log_is c.replay.replay.history in (
      sides_to c.after.tree way [],
      subst (λ (x : View Board Entry). IsLeasedBelow v.key.first.value x.spans x.seen leaf.lease (sides_to c.after.tree way [])) (sym c.sees) (record {
        way = way;
        is_open = record { seat = v.own; before = c.before.log; since = []; is_log = log_is; number = ap (λ (l : Lease). l.number) s.is_lease; has = c.within v.own c.own; not_ended = tt };
        given = c.after;
        history = subst (λ (x : Board). IsHistory x (c.before.log ++ lease_to v.own way leaf.lease ∷ []) c.after) (same_opening v.key.first.value c.after c.replay) history;
        is_below = refl;
      }),
      honest_on_board honest v.key.first.value c.after c.replay way,
      c.event.2,
      room_on_board room v.key.first.value c.before c.after v.own way leaf.lease s c.replay,
    )

-- a log that goes on without the numbers leaves it open, and so it is for who holds more numbers
pub open_where_log_goes_on : (first : Board) (spans more : List (ℕ × ℕ)) (seen log : List Entry) (lease : Lease) (sides : List SideOf) → IsLeasedBelow first spans seen lease sides → GoesOn touched spans seen log → ((k : ℕ) → Has spans k → Has more k)
    → IsLeasedBelow first more log lease sides
open_where_log_goes_on first spans more seen log lease sides l goes_on grows =
    let behind = leased_behind first spans seen goes_on.0 lease sides l (none_ends spans seen goes_on.0 l.way lease l.is_open goes_on.2) in
    subst (λ (x : List Entry). IsLeasedBelow first more x lease sides) (sym goes_on.1) (held_by_more first spans more (seen ++ goes_on.0) lease sides behind grows)
  where
    held_by_more : (first : Board) (spans more : List (ℕ × ℕ)) (log : List Entry) (lease : Lease) (sides : List SideOf) → IsLeasedBelow first spans log lease sides → ((k : ℕ) → Has spans k → Has more k) → IsLeasedBelow first more log lease sides
    held_by_more first spans more log lease sides l grows = let o = l.is_open in record {
      way = l.way;
      is_open = record { seat = o.seat; before = o.before; since = o.since; is_log = o.is_log; number = o.number; has = grows o.seat o.has; not_ended = o.not_ended };
      given = l.given;
      history = l.history;
      is_below = l.is_below;
    }

-- an offer of the pass leaves it open
pub open_after_offer : (v w : View Board Entry) (x : List Rational) (best : Option Rational) (lease : Lease) (sides : List SideOf) → Called touched log_of IsOfSearch (λ seat b (told : Option Rational) c. IsOffer b seat x told c) v best w
    → IsLeasedBelow v.key.first.value v.spans v.seen lease sides → IsLeasedBelow v.key.first.value w.spans w.seen lease sides
open_after_offer v w x best lease sides c l =
    let first = v.key.first.value in
    let before = open_where_log_goes_on first v.spans v.spans v.seen c.before.log lease sides l c.goes_on (λ k has. has) in
    let offered = leased_behind first v.spans c.before.log (record { event = Offering v.own x; reply = Best best } ∷ []) lease sides before (tt, tt) in
    let log_is : c.after.log ≡ c.before.log ++ record { event = Offering v.own x; reply = Best best } ∷ [] = ap log_of c.event.new in
    subst (λ (y : View Board Entry). IsLeasedBelow first y.spans y.seen lease sides) (sym c.sees) (subst (λ (log : List Entry). IsLeasedBelow first v.spans log lease sides) (sym log_is) offered)
