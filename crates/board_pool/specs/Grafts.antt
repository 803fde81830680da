-- When a tree may be put in the place of a leased leaf, as the log tells it that a pass has seen.
use Rattle.std.specs.Prelude.{ℕ, ◌≤◌, List}
use Rattle.verdicts.specs.Certificate.{Side as SideOf}
use Rattle.search_tree.specs.declared.leaf.Lease.{Lease}
use Rattle.search_tree.specs.declared.event.Entry.{Entry}
use Rattle.search_tree.specs.Tree.{Tree, AllSplits, made}
use Rattle.search_tree.specs.Nodes.{IsWorthwhile}
use Rattle.search_tree.specs.Board.{Board}
use Rattle.search_tree.specs.Steps.{IsSound}
use Rattle.board_pool.specs.OpenLeases.{IsLeasedBelow}
use Rattle.board_pool.specs.Stuck.{NoneStuck}

-- the first board with this log in place of its own
abbrev pub with_log : Board → List Entry → Board
with_log first log = record first { log = log }

-- The lease is open, for a leaf below these splits. The tree is sound there, has no leaf at which the work is stuck, and no more
-- splits than were granted, each of them at a node that beats the value that the lease told.
pub record MayBePut (first : Board) (spans : List (ℕ × ℕ)) (log : List Entry) (lease : Lease) (t : Tree) : Type 0 where
  pub sides : List SideOf
  pub is_leased : IsLeasedBelow first spans log lease sides
  pub sound : IsSound (with_log first log) sides t
  pub none_stuck : NoneStuck t
  pub within : made t ≤ lease.grant
  pub worthwhile : AllSplits (λ sides s. IsWorthwhile first.problem first.cuts lease.best sides) sides t
