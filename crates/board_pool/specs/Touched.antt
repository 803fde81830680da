-- The numbers of seats that an entry of a board's log touches.
use Rattle.std.specs.Prelude.{ℕ, List, [], ◌∷◌, ◌++◌, Option, Some, None, slice_get}
use Rattle.search_tree.specs.declared.event.Event.{Event}
use Rattle.search_tree.specs.declared.event.Event.TheVariants.{Leasing, Idling, Grafting, Offering, Reclaiming}
use Rattle.search_tree.specs.declared.event.Entry.{Entry}

-- the number of the seat to which the event leases a leaf
abbrev pub leased_by : Event → List ℕ
leased_by (Leasing seat) = seat ∷ []
leased_by (Idling seat) = []
leased_by (Grafting seat lease t) = []
leased_by (Offering seat x) = []
leased_by Reclaiming = []

-- that of the seat to which the entry leases one, if there is an entry
abbrev pub leased_at : Option Entry → List ℕ
leased_at None = []
leased_at (Some e) = leased_by e.event

-- those of all seats to which the log leases leaves
abbrev pub leased_in : List Entry → List ℕ
leased_in [] = []
leased_in (e ∷ log) = leased_by e.event ++ leased_in log

-- An event touches the number of its seat. A graft also touches that of the seat that was given the lease, and a reclaim
-- those of all seats that were given leases.
abbrev pub touched_by : List Entry → Event → List ℕ
touched_by log (Leasing seat) = seat ∷ []
touched_by log (Idling seat) = seat ∷ []
touched_by log (Grafting seat lease t) = seat ∷ leased_at (slice_get log lease.number)
touched_by log (Offering seat x) = seat ∷ []
touched_by log Reclaiming = leased_in log

abbrev pub touched : List Entry → Entry → List ℕ
touched log e = touched_by log e.event
