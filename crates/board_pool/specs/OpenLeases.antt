-- When a lease is open, as the log tells it that a pass has seen.
use Rattle.std.specs.Prelude.{ℕ, ◌≡◌, ◌≢◌, List, [], ◌∷◌, ◌++◌, length}
use Rattle.verdicts.specs.Certificate.{Side as SideOf}
use Rattle.certificate.specs.declared.split.Side.{Side}
use Rattle.turn_pool.specs.Logs.{Has}
use Rattle.search_tree.specs.declared.leaf.Lease.{Lease}
use Rattle.search_tree.specs.declared.event.Event.{Event}
use Rattle.search_tree.specs.declared.event.Event.TheVariants.{Leasing, Idling, Grafting, Offering, Reclaiming}
use Rattle.search_tree.specs.declared.event.Reply.TheVariants.{Given}
use Rattle.search_tree.specs.declared.event.Entry.{Entry}
use Rattle.search_tree.specs.Tree.{sides_to}
use Rattle.search_tree.specs.Board.{Board}
use Rattle.search_tree.specs.Steps.{IsHistory, opening}

-- the entry by which the leaf at this place is leased to a seat
abbrev pub lease_to : ℕ → List Side → Lease → Entry
lease_to seat way lease = record { event = Leasing seat; reply = Given way lease }

-- the event does not end the lease of this number
abbrev pub LeavesOpen : ℕ → Event → Type 0
LeavesOpen number (Leasing seat) = Unit {0}
LeavesOpen number (Idling seat) = Unit {0}
LeavesOpen number (Grafting seat lease t) = lease.number ≢ number
LeavesOpen number (Offering seat x) = Unit {0}
LeavesOpen number Reclaiming = ⊥

abbrev pub AllLeaveOpen : ℕ → List Entry → Type 0
AllLeaveOpen number [] = Unit {0}
AllLeaveOpen number (e ∷ log) = LeavesOpen number e.event × AllLeaveOpen number log

-- the log leases the leaf at this place to a seat whose number lies in the spans, and does not end the lease
pub record IsOpenFor (spans : List (ℕ × ℕ)) (log : List Entry) (way : List Side) (lease : Lease) : Type 0 where
  pub seat : ℕ
  pub before : List Entry
  pub since : List Entry
  pub is_log : log ≡ before ++ lease_to seat way lease ∷ since
  pub number : lease.number ≡ length before
  pub has : Has spans seat
  pub not_ended : AllLeaveOpen lease.number since

-- The lease is open, and its leaf stands below these splits, the latest first: so it did on the board `given`, to which the log leads
-- up to the lease.
pub record IsLeasedBelow (first : Board) (spans : List (ℕ × ℕ)) (log : List Entry) (lease : Lease) (sides : List SideOf) : Type 0 where
  pub way : List Side
  pub is_open : IsOpenFor spans log way lease
  pub given : Board
  pub history : IsHistory (opening first) (is_open.before ++ lease_to is_open.seat way lease ∷ []) given
  pub is_below : sides ≡ sides_to given.tree way []
