-- What a node of the board's tree is, as far as the board looks at it.
use Rattle.std.specs.Prelude.{Option, None}
use Rattle.search_tree.specs.declared.leaf.Lease.{Lease}
use Rattle.search_tree.specs.declared.leaf.Leaf.{Leaf}
use Rattle.search_tree.specs.declared.leaf.Leaf.TheVariants.{Todo, Treated, Leased, Refuted, Bounded, NotFitting, AtLimit}
use Rattle.search_tree.specs.declared.leaf.Slot.{Slot}
use Rattle.search_tree.specs.declared.leaf.Slot.TheVariants as slot
use Rattle.search_tree.specs.Tree.{lease_of}
use Rattle.tree_pool.specs.declared.kind.Kind.{Kind}
use Rattle.tree_pool.specs.declared.kind.Kind.TheVariants as kind

abbrev pub leaf_kind : Leaf → Kind
leaf_kind (Todo hint) = kind.ToDo
leaf_kind (Treated hint) = kind.ToDo
leaf_kind (Leased lease) = kind.LeasedUnder lease.number
leaf_kind (Refuted w) = kind.Ended
leaf_kind (Bounded w) = kind.Ended
leaf_kind (NotFitting e) = kind.Ended
leaf_kind (AtLimit bases) = kind.Ended

abbrev pub kind_of : Slot → Kind
kind_of (slot.Divided s) = kind.SplitBy s
kind_of (slot.Leaf leaf) = leaf_kind leaf

-- the lease of a leaf on which someone works
abbrev pub lease_in : Slot → Option Lease
lease_in (slot.Divided s) = None
lease_in (slot.Leaf leaf) = lease_of leaf
