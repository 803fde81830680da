-- A log with the tree and the best point that it leads to, and what is found among the tree's nodes.
use Rattle.std.specs.Prelude.{ℕ, Bool, true, false, cond, ◌<◌, ◌+◌, ◌≡◌, List, [], ◌∷◌, ◌++◌, length, map, slice_get, Option, Some, None, is_some}
use Rattle.rational.specs.Rational.{Rational}
use Rattle.certificate.specs.declared.split.Side.{Side}
use Rattle.search_tree.specs.declared.event.Event.{Event}
use Rattle.search_tree.specs.declared.event.Event.TheVariants.{Leasing, Idling, Grafting, Offering, Reclaiming}
use Rattle.search_tree.specs.declared.event.Reply.TheVariants.{Given}
use Rattle.search_tree.specs.declared.event.Entry.{Entry}
use Rattle.verdicts.specs.Certificate.{TreeNode, Branch}
use Rattle.search_tree.specs.declared.leaf.Lease.{Lease}
use Rattle.search_tree.specs.declared.leaf.Leaf.{Leaf}
use Rattle.search_tree.specs.declared.leaf.Leaf.TheVariants.{Leased}
use Rattle.search_tree.specs.declared.leaf.Slot.{Slot}
use Rattle.search_tree.specs.declared.leaf.Slot.TheVariants as slot
use Rattle.search_tree.specs.Tree.{Tree, AtLeaf, IsTodo, at_place, replaced}
use Rattle.search_tree.specs.Kept.{closed_node}
use Rattle.search_tree.specs.Finished.{one_or_none}
use Rattle.tree_pool.specs.declared.refs.NodeRef.{NodeRef}
use Rattle.tree_pool.specs.declared.refs.NodeRef.TheVariants.{Again}
use Rattle.tree_pool.specs.declared.kind.Kind.{Kind}
use Rattle.tree_pool.specs.declared.kind.Kind.TheVariants as kind
use Rattle.tree_pool.specs.LogNodes.{node_at}
use Rattle.tree_pool.specs.Kinds.{kind_of}
use Rattle.tree_pool.specs.Standing.{ref_at}

pub record Ledger : Type 0 where
  pub log : List Entry
  pub tree : Tree
  pub best : Option (List Rational)

-- the point that an event offers
abbrev pub offered_by : Event → Option (List Rational)
offered_by (Offering seat x) = Some x
offered_by (Leasing seat) = None
offered_by (Idling seat) = None
offered_by (Grafting seat lease t) = None
offered_by Reclaiming = None

abbrev pub offered_in : Option Entry → Option (List Rational)
offered_in None = None
offered_in (Some e) = offered_by e.event

-- the best point, which an entry of the log offers
abbrev pub best_at : List Entry → Option ℕ → Option (List Rational)
best_at log None = None
best_at log (Some n) = offered_in (slice_get log n)

-- a leaf that was to be worked on is leased
pub record IsTaken (l : Ledger) (seat : ℕ) (lease : Lease) (m : Ledger) : Type 0 where
  pub way : List Side
  pub leaf : Leaf
  pub is_todo : IsTodo leaf
  pub there : at_place l.tree way ≡ Some (AtLeaf leaf)
  pub log : m.log ≡ l.log ++ record { event = Leasing seat; reply = Given way lease } ∷ []
  pub tree : m.tree ≡ replaced l.tree way (AtLeaf (Leased lease))
  pub best : m.best ≡ l.best

-- ---- what stands at places

pub record IsPlaceOf (k : Kind) (log : List Entry) (refs : List NodeRef) (place : ℕ) : Type 0 where
  pub within : place < length refs
  pub is_kind : kind_of (node_at log (ref_at refs place)) ≡ k

abbrev pub HasNone : Kind → List Entry → List NodeRef → Type 0
HasNone k log refs = (place : ℕ) → ¬ (IsPlaceOf k log refs place)

-- ---- nodes in preorder

-- what the nodes are
abbrev pub kinds_in : List Entry → List NodeRef → List Kind
kinds_in log refs = map (λ r. kind_of (node_at log r)) refs

-- f of the number of a leased leaf, 0 of others
abbrev pub of_kind : (ℕ → ℕ) → Kind → ℕ
of_kind f kind.ToDo = 0
of_kind f (kind.LeasedUnder n) = f n
of_kind f kind.Ended = 0
of_kind f (kind.SplitBy s) = 0

abbrev pub sum_of_kinds : (ℕ → ℕ) → List Kind → ℕ
sum_of_kinds f [] = 0
sum_of_kinds f (k ∷ kinds) = of_kind f k + sum_of_kinds f kinds

-- the number of leased leaves
abbrev pub lease_count : List Kind → ℕ
lease_count kinds = sum_of_kinds (λ n. 1) kinds

-- ---- nodes that are given back

abbrev pub is_leased : Kind → Bool
is_leased kind.ToDo = false
is_leased (kind.LeasedUnder n) = true
is_leased kind.Ended = false
is_leased (kind.SplitBy s) = false

-- a leased leaf is to be worked on again
abbrev pub given_back : List Entry → NodeRef → NodeRef
given_back log r = cond (is_leased (kind_of (node_at log r))) Again r

-- ---- nodes of a certificate

abbrev pub closed_in : Slot → Option TreeNode
closed_in (slot.Divided s) = Some (Branch s)
closed_in (slot.Leaf leaf) = closed_node leaf

-- the nodes of closed leaves, and the branches
abbrev pub closed_slots : List Slot → List TreeNode
closed_slots [] = []
closed_slots (s ∷ slots) = one_or_none (closed_in s) ++ closed_slots slots

-- each leaf is closed
abbrev pub are_closed : List Slot → Bool
are_closed [] = true
are_closed (s ∷ slots) = cond (is_some (closed_in s)) (are_closed slots) false
