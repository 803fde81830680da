-- The nodes of a board's tree, read from its log, which owns the trees that were put in.
use Rattle.std.specs.Prelude.{ℕ, ◌<◌, List, [], ◌∷◌, map, Option, Some, None, slice_get}
use Rattle.search_tree.specs.declared.leaf.Leaf.TheVariants.{Todo, Leased}
use Rattle.search_tree.specs.declared.leaf.Slot.{Slot}
use Rattle.search_tree.specs.declared.leaf.Slot.TheVariants as slot
use Rattle.search_tree.specs.declared.event.Event.{Event}
use Rattle.search_tree.specs.declared.event.Event.TheVariants.{Leasing, Idling, Grafting, Offering, Reclaiming}
use Rattle.search_tree.specs.declared.event.Reply.{Reply}
use Rattle.search_tree.specs.declared.event.Reply.TheVariants.{Given, StillLeased, Best, Done}
use Rattle.search_tree.specs.declared.event.Entry.{Entry}
use Rattle.search_tree.specs.Slots.{slots_of}
use Rattle.tree_pool.specs.declared.refs.NodeRef.{NodeRef}
use Rattle.tree_pool.specs.declared.refs.NodeRef.TheVariants.{Again, Under, Held, Forked}

-- the nodes of the tree that an event puts in
abbrev pub put_by : Event → List Slot
put_by (Grafting seat lease t) = slots_of t
put_by (Leasing seat) = []
put_by (Idling seat) = []
put_by (Offering seat x) = []
put_by Reclaiming = []

-- the leaf that a reply leases
abbrev pub leased_by : Reply → Slot
leased_by (Given way lease) = slot.Leaf (Leased lease)
leased_by (StillLeased count) = slot.Leaf (Todo tt)
leased_by (Best best) = slot.Leaf (Todo tt)
leased_by Done = slot.Leaf (Todo tt)

abbrev pub put_in : Option Entry → List Slot
put_in None = []
put_in (Some e) = put_by e.event

abbrev pub leased_in : Option Entry → Slot
leased_in None = slot.Leaf (Todo tt)
leased_in (Some e) = leased_by e.reply

abbrev pub slot_or_todo : Option Slot → Slot
slot_or_todo None = slot.Leaf (Todo tt)
slot_or_todo (Some s) = s

abbrev pub node_at : List Entry → NodeRef → Slot
node_at log Again = slot.Leaf (Todo tt)
node_at log (Under entry) = leased_in (slice_get log entry)
node_at log (Held entry n) = slot_or_todo (slice_get (put_in (slice_get log entry)) n)
node_at log (Forked entry n low) = slot_or_todo (slice_get (put_in (slice_get log entry)) n)

-- the nodes in preorder
abbrev pub nodes_in : List Entry → List NodeRef → List Slot
nodes_in log refs = map (node_at log) refs

-- the entry that it names is in a log of this length
abbrev pub IsInLog : ℕ → NodeRef → Type 0
IsInLog count Again = Unit {0}
IsInLog count (Under entry) = entry < count
IsInLog count (Held entry n) = entry < count
IsInLog count (Forked entry n low) = entry < count

abbrev pub AllInLog : ℕ → List NodeRef → Type 0
AllInLog count [] = Unit {0}
AllInLog count (r ∷ refs) = IsInLog count r × AllInLog count refs
