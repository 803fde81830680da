-- The tree to which a log leads.
use Rattle.std.specs.Prelude.{ℕ, Bool, false, ◌==◌, cond, List, [], ◌∷◌, Option, Some, None}
use Rattle.search_tree.specs.declared.leaf.Lease.{Lease}
use Rattle.search_tree.specs.declared.leaf.Leaf.TheVariants.{Todo, Leased}
use Rattle.search_tree.specs.declared.event.Event.{Event}
use Rattle.search_tree.specs.declared.event.Event.TheVariants.{Leasing, Idling, Grafting, Offering, Reclaiming}
use Rattle.search_tree.specs.declared.event.Reply.{Reply}
use Rattle.search_tree.specs.declared.event.Reply.TheVariants.{Given, StillLeased, Best, Done}
use Rattle.search_tree.specs.declared.event.Entry.{Entry}
use Rattle.search_tree.specs.Tree.{Tree, Divided, AtLeaf, lease_of, replaced, reclaimed}

-- the lease is given under this number
abbrev pub is_under : ℕ → Option Lease → Bool
is_under n None = false
is_under n (Some lease) = lease.number == n

-- another tree in the place of each leaf that is leased under this number
abbrev pub put_under : ℕ → Tree → Tree → Tree
put_under n other (Divided s low high) = Divided s (put_under n other low) (put_under n other high)
put_under n other (AtLeaf leaf) = cond (is_under n (lease_of leaf)) other (AtLeaf leaf)

-- the tree with the leaf that a reply leases
abbrev pub leased_by : Reply → Tree → Tree
leased_by (Given way lease) t = replaced t way (AtLeaf (Leased lease))
leased_by (StillLeased count) t = t
leased_by (Best best) t = t
leased_by Done t = t

-- the tree after an event with its reply
abbrev pub tree_by : Event → Reply → Tree → Tree
tree_by (Leasing seat) reply t = leased_by reply t
tree_by (Idling seat) reply t = t
tree_by (Grafting seat lease other) reply t = put_under lease.number other t
tree_by (Offering seat x) reply t = t
tree_by Reclaiming reply t = reclaimed t

abbrev pub grown : Tree → List Entry → Tree
grown t [] = t
grown t (e ∷ log) = grown (tree_by e.event e.reply t) log

-- the tree after the events of a log, from one leaf that is to be worked on
abbrev pub tree_after : List Entry → Tree
tree_after log = grown (AtLeaf (Todo tt)) log
