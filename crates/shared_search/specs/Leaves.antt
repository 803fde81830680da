-- Leaves that are leased to a pass, and what may be put in their places.
use Rattle.std.specs.Prelude.{◌≡◌, ◌+◌, ◌≤◌, List, length, Option, IfSome}
use Rattle.rational.specs.Rational.{Rational}
use Rattle.milp.specs.Points.{objective_value}
use Rattle.verdicts.specs.Certificate.{Side as SideOf}
use Rattle.turn_pool.specs.declared.view.View.{View}
use Rattle.search_node.specs.Sides.{sides_of}
use Rattle.search_tree.specs.declared.leaf.Lease.{Lease}
use Rattle.search_tree.specs.declared.leaf.Leaf.{Leaf}
use Rattle.search_tree.specs.declared.event.Entry.{Entry}
use Rattle.search_tree.specs.Tree.{IsNotLeased}
use Rattle.search_tree.specs.Nodes.{KeepsLeaf}
use Rattle.search_tree.specs.Kept.{IsNoBetter}
use Rattle.search_tree.specs.Honest.{IsHonestWay}
use Rattle.search_tree.specs.Board.{Board, IsTold}
use Rattle.branch_search.specs.declared.fragment.Fragment.{Fragment}
use Rattle.branch_search.specs.declared.fragment.Grown.{Grown}
use Rattle.branch_search.specs.Grown.{IsFragment, IsGrown}
use Rattle.board_pool.specs.declared.asked.LeasedLeaf.{LeasedLeaf}
use Rattle.board_pool.specs.declared.asked.Asked.{Asked}
use Rattle.board_pool.specs.declared.asked.Asked.TheVariants.{Leased, Idle}
use Rattle.board_pool.specs.OpenLeases.{IsLeasedBelow}
use Rattle.board_pool.specs.Stuck.{IsNotStuck}
use Rattle.shared_search.specs.Holders.{first_of}

-- the leaf below these splits is leased to the pass
abbrev pub IsOpenFor : View Board Entry → Lease → List SideOf → Type 0
IsOpenFor v lease sides = IsLeasedBelow (first_of v) v.spans v.seen lease sides

-- the leaf below these splits is leased to the pass, the way to it is honest, and leaves room for the splits that are granted
pub record IsHeld (v : View Board Entry) (lease : Lease) (sides : List SideOf) : Type 0 where
  pub is_open : IsOpenFor v lease sides
  pub way : IsHonestWay (first_of v).problem (first_of v).cuts (first_of v).split_limit sides
  pub room : length sides + lease.grant ≤ (first_of v).split_limit

-- such a leaf, and its node is told, if there was memory for it
pub record IsGiven (v : View Board Entry) (leaf : LeasedLeaf) : Type 0 where
  pub sides : List SideOf
  pub held : IsHeld v leaf.lease sides
  pub node : IfSome leaf.node (λ node. sides_of node.splits ≡ sides)

-- an answer to the pass gives it such a leaf, or none
abbrev pub IsToldLeaf : View Board Entry → Asked → Type 0
IsToldLeaf v (Leased leaf) = IsGiven v leaf
IsToldLeaf v (Idle count) = Unit {0}

-- what the leaf says of the node below the splits of the lease holds, against a value that was told
pub record IsLeafFor (v : View Board Entry) (lease : Lease) (leaf : Leaf) : Type 0 where
  pub sides : List SideOf
  pub is_open : IsOpenFor v lease sides
  pub goal : Option Rational
  pub is_told : IfSome goal (λ u. IsTold u v.seen)
  pub keeps : KeepsLeaf (first_of v).problem (first_of v).cuts (first_of v).pivot_limit goal sides leaf
  pub not_leased : IsNotLeased leaf
  pub not_stuck : IsNotStuck leaf

-- the work at a leaf that is leased to the pass comes to this
pub record IsGrownFor (v : View Board Entry) (lease : Lease) (g : Grown) : Type 0 where
  pub sides : List SideOf
  pub is_open : IsOpenFor v lease sides
  pub grown : IsGrown (first_of v).problem (first_of v).cuts (first_of v).pivot_limit sides lease.best lease.grant g

-- and this is such a fragment
pub record IsFragmentFor (v : View Board Entry) (lease : Lease) (f : Fragment) : Type 0 where
  pub sides : List SideOf
  pub is_open : IsOpenFor v lease sides
  pub fragment : IsFragment (first_of v).problem (first_of v).cuts (first_of v).pivot_limit sides lease.best lease.grant f

-- the point was offered, and the best value told, which is no worse than the point's; leases of the pass stay open
pub record IsOffered (v : View Board Entry) (x : List Rational) (best : Option Rational) (w : View Board Entry) : Type 0 where
  pub is_told : IfSome best (λ u. IsTold u w.seen)
  pub no_worse : IsNoBetter (first_of v).problem best (objective_value (first_of v).problem x)
  pub leases : (lease : Lease) (sides : List SideOf) → IsOpenFor v lease sides → IsOpenFor w lease sides
