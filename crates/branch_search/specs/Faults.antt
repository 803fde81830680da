-- What it says where a search finds no verdict.
use Rattle.std.specs.Prelude.{ℕ, ◌≡◌, ◌⊎◌, List, [], Option}
use Rattle.rational.specs.Rational.{Rational}
use Rattle.milp.specs.Problem.{Problem}
use Rattle.verdicts.specs.Certificate.{Side, Derived}
use Rattle.basis.specs.Node.{system_of}
use Rattle.basis.specs.Numbers.{node_numbers}
use Rattle.simplex.specs.Run.{IsLimited}
use Rattle.search_node.specs.Faults.{IsSiteFault}
use Rattle.search_node.specs.Sides.{sides_of}
use Rattle.search_node.specs.declared.fault.Site.{Site}
use Rattle.basis.specs.declared.Place.{Place}
use Rattle.search_tree.specs.declared.leaf.Leaf.{Leaf}
use Rattle.search_tree.specs.Tree.{IsTodo, IsNotLeased, AllSplits, AllLeaves, made}
use Rattle.search_tree.specs.Nodes.{IsHonestSplit, IsTreated}
use Rattle.search_tree.specs.Work.{IsWorkFault}
use Rattle.search_tree.specs.Board.{Board, value_of}
use Rattle.search_tree.specs.Honest.{IsHonestWay}
use Rattle.search_tree.specs.Finished.{IsFinished, IsThere}
use Rattle.search_tree.specs.Kept.{closed_node}
use Rattle.search_tree.specs.Steps.{IsReplay}
use Rattle.branch_search.specs.Treatment.{IsEndless}
use Rattle.branch_search.specs.declared.fault.EndlessAt.{EndlessAt}
use Rattle.branch_search.specs.declared.fault.LeafFault.{LeafFault}
use Rattle.branch_search.specs.declared.fault.LeafFault.TheVariants as at_leaf
use Rattle.branch_search.specs.declared.fault.SearchFault.{SearchFault}
use Rattle.branch_search.specs.declared.fault.SearchFault.TheVariants.{NoFit, PivotLimit, SplitLimit, Unbounded, NoMemory}

-- an operation of the work at a node on an honest way does not fit; it is on site numbers of the node
pub record IsStuckAt (p : Problem) (ds : List Derived) (splits : ℕ) (site : Site) : Type 0 where
  pub way : IsHonestWay p ds splits (sides_of site.node.splits)
  pub fault : IsWorkFault p ds (sides_of site.node.splits) site.fault
  pub on_site : IsSiteFault (node_numbers p ds (sides_of site.node.splits)) site.fault

-- Bland's run at a node on an honest way goes through these bases, and further
pub record IsRunTooLong (p : Problem) (ds : List Derived) (splits pivots : ℕ) (bases : List (List Place)) : Type 0 where
  pub sides : List Side
  pub way : IsHonestWay p ds splits sides
  pub limited : IsLimited (system_of p ds sides) pivots bases

-- a leaf is closed; or it is to be worked on, and its node is treated against the best value, so that it would have to be split
abbrev pub IsClosedOrTreated : Problem → List Derived → Option Rational → List Side → Leaf → Type 0
IsClosedOrTreated p ds best sides leaf = IsThere (closed_node leaf) ⊎ (IsTodo leaf × IsTreated p ds sides best)

-- the board is the replay of its log, from the opening board of the problem with these cuts and limits, and no leaf of it is leased
pub record IsStoppedBoard (p : Problem) (ds : List Derived) (splits pivots : ℕ) (board : Board) : Type 0 where
  pub replay : IsReplay board
  pub problem : board.problem ≡ p
  pub cuts : board.cuts ≡ ds
  pub split_limit : board.split_limit ≡ splits
  pub pivot_limit : board.pivot_limit ≡ pivots
  pub none_leased : AllLeaves (λ sides leaf. IsNotLeased leaf) [] board.tree

-- a search stops on such a board, since Bland's run at a node is too long
pub record IsOutOfPivots (p : Problem) (ds : List Derived) (splits pivots : ℕ) (bases : List (List Place)) (board : Board) : Type 0 where
  pub run : IsRunTooLong p ds splits pivots bases
  pub stopped : IsStoppedBoard p ds splits pivots board

-- A search stops on such a board, on which as many splits are made as are allowed, all honest. It is not finished: each leaf that
-- isn't closed is of a node that would have to be split.
pub record IsOutOfSplits (p : Problem) (ds : List Derived) (splits pivots : ℕ) (board : Board) : Type 0 where
  pub stopped : IsStoppedBoard p ds splits pivots board
  pub all_made : made board.tree ≡ splits
  pub honest : AllSplits (IsHonestSplit p ds) [] board.tree
  pub leaves : AllLeaves (IsClosedOrTreated p ds (value_of board)) [] board.tree
  pub unfinished : ¬ (IsFinished board)

-- a ray that is found at a node on an honest way improves the problem
pub record IsEndlessAt (p : Problem) (ds : List Derived) (splits : ℕ) (e : EndlessAt) : Type 0 where
  pub way : IsHonestWay p ds splits (sides_of e.node.splits)
  pub endless : IsEndless p ds (sides_of e.node.splits) e.endless

-- the cause of a fault of the work at a leaf
abbrev pub IsLeafFault : Problem → List Derived → ℕ → ℕ → LeafFault → Type 0
IsLeafFault p ds splits pivots (at_leaf.NoFit site) = IsStuckAt p ds splits site
IsLeafFault p ds splits pivots (at_leaf.PivotLimit bases) = IsRunTooLong p ds splits pivots bases
IsLeafFault p ds splits pivots (at_leaf.Unbounded endless) = IsEndlessAt p ds splits endless
IsLeafFault p ds splits pivots at_leaf.NoMemory = Unit {0}

-- the cause of a fault of a search
abbrev pub IsFault : Problem → List Derived → ℕ → ℕ → SearchFault → Type 0
IsFault p ds splits pivots (NoFit site) = IsStuckAt p ds splits site
IsFault p ds splits pivots (PivotLimit bases board) = IsOutOfPivots p ds splits pivots bases board
IsFault p ds splits pivots (SplitLimit board) = IsOutOfSplits p ds splits pivots board
IsFault p ds splits pivots (Unbounded endless) = IsEndlessAt p ds splits endless
IsFault p ds splits pivots NoMemory = Unit {0}
