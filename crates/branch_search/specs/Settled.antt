-- What one round of a search makes of its board.
use Rattle.std.specs.Prelude.{ℕ, ◌≡◌, List, [], Option, Some}
use Rattle.rational.specs.Rational.{Rational}
use Rattle.certificate.specs.declared.split.Side.{Side}
use Rattle.search_tree.specs.declared.leaf.Lease.{Lease}
use Rattle.search_tree.specs.declared.leaf.Leaf.TheVariants.{Leased}
use Rattle.search_tree.specs.Tree.{Tree, AtLeaf, at_place, sides_to}
use Rattle.search_tree.specs.Nodes.{IsTreated}
use Rattle.search_tree.specs.Board.{Board, value_of}
use Rattle.search_tree.specs.Steps.{IsLease, IsIdle, IsGraft, IsOffer, IsReclaim}
use Rattle.branch_search.specs.Grown.{IsOutcome}
use Rattle.branch_search.specs.declared.settling.Round.{Round}
use Rattle.branch_search.specs.declared.settling.Round.TheVariants.{Worked, Left, Idle}

-- one seat alone takes part
abbrev pub seat : ℕ
seat = 0

-- a tree is put in the place of the leased leaf
pub record IsPut (b : Board) (lease : Lease) (c : Board) : Type 0 where
  pub tree : Tree
  pub outcome : IsOutcome lease.grant tree
  pub best : Option Rational
  pub graft : IsGraft b seat lease tree best c

-- a feasible point is offered, a tree is put there, and leaves that are still leased are to be worked on again
pub record IsOffered (b : Board) (lease : Lease) (c : Board) : Type 0 where
  pub point : List Rational
  pub best : Option Rational
  pub told : Board
  pub offer : IsOffer b seat point best told
  pub closed : Board
  pub put : IsPut told lease closed
  pub reclaim : IsReclaim closed c

pub data IsWorked (b : Board) (lease : Lease) (c : Board) : Type 0 where
  at_once : IsPut b lease c → IsWorked b lease c
  offered : IsOffered b lease c → IsWorked b lease c

-- the leaf stays leased: it is to be split, and no split is granted
pub record IsLeft (b : Board) (lease : Lease) (c : Board) : Type 0 where
  pub same : c ≡ b
  pub grant : lease.grant ≡ 0
  pub treated : (way : List Side) → at_place b.tree way ≡ Some (AtLeaf (Leased lease)) → IsTreated b.problem b.cuts (sides_to b.tree way []) (value_of b)

abbrev pub IsSettled : Board → Lease → Round → Board → Type 0
IsSettled b lease Worked c = IsWorked b lease c
IsSettled b lease Left c = IsLeft b lease c
IsSettled b lease Idle c = ⊥

-- a leaf is leased, and then settled
pub record IsAfterLease (b : Board) (round : Round) (c : Board) : Type 0 where
  pub way : List Side
  pub lease : Lease
  pub board : Board
  pub is_lease : IsLease b seat way lease board
  pub settled : IsSettled board lease round c

-- no leaf is to be worked on
pub record IsAfterIdle (b c : Board) : Type 0 where
  pub count : ℕ
  pub is_idle : IsIdle b seat count c

abbrev pub IsRound : Board → Round → Board → Type 0
IsRound b Worked c = IsAfterLease b Worked c
IsRound b Left c = IsAfterLease b Left c
IsRound b Idle c = IsAfterIdle b c
