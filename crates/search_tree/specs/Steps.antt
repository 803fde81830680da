-- What each event makes of a board, and when it comes.
use Rattle.std.specs.Prelude.{ℕ, ◌≤◌, ◌≡◌, List, [], ◌∷◌, Option, Some, None, IfSome}
use Rattle.rational.specs.Rational.{Rational}
use Rattle.milp.specs.Points.{Feasible, objective_value}
use Rattle.verdicts.specs.Certificate.{Side as SideOf}
use Rattle.certificate.specs.declared.split.Side.{Side}
use Rattle.search_tree.specs.declared.leaf.Lease.{Lease}
use Rattle.search_tree.specs.declared.leaf.Leaf.{Leaf}
use Rattle.search_tree.specs.declared.leaf.Leaf.TheVariants.{Todo, Leased}
use Rattle.search_tree.specs.declared.event.Event.{Event}
use Rattle.search_tree.specs.declared.event.Event.TheVariants.{Leasing, Idling, Grafting, Offering, Reclaiming}
use Rattle.search_tree.specs.declared.event.Reply.{Reply}
use Rattle.search_tree.specs.declared.event.Reply.TheVariants.{Given, StillLeased, Best, Done}
use Rattle.search_tree.specs.declared.event.Entry.{Entry}
use Rattle.search_tree.specs.Tree.{Tree, AtLeaf, IsTodo, IsNotLeased, at_place, replaced, sides_to, AllSplits, AllLeaves, made, leased, reclaimed}
use Rattle.search_tree.specs.Nodes.{IsHonestSplit, IsWorthwhile, KeepsLeaf}
use Rattle.search_tree.specs.Board.{Board, value_of, IsTold, after, next_lease, better_of}
use Rattle.search_tree.specs.Kept.{AllPass, HasSums}

-- a leaf that was to be worked on is leased
pub record IsLease (b : Board) (seat : ℕ) (way : List Side) (lease : Lease) (c : Board) : Type 0 where
  pub leaf : Leaf
  pub is_todo : IsTodo leaf
  pub there : at_place b.tree way ≡ Some (AtLeaf leaf)
  pub is_lease : lease ≡ next_lease b
  pub new : c ≡ after b (replaced b.tree way (AtLeaf (Leased lease))) b.best (Leasing seat) (Given way lease)

-- no leaf is to be worked on
pub record IsIdle (b : Board) (seat count : ℕ) (c : Board) : Type 0 where
  pub none_todo : AllLeaves (λ sides leaf. ¬ (IsTodo leaf)) [] b.tree
  pub is_count : count ≡ leased b.tree
  pub new : c ≡ after b b.tree b.best (Idling seat) (StillLeased count)

-- a tree that may stand at a place of the board: honest, with bounded leaves that are tested against a value that was replied
pub record IsSound (b : Board) (sides : List SideOf) (t : Tree) : Type 0 where
  pub splits : AllSplits (IsHonestSplit b.problem b.cuts) sides t
  pub goal : Option Rational
  pub is_told : IfSome goal (λ v. IsTold v b.log)
  pub leaves : AllLeaves (KeepsLeaf b.problem b.cuts b.pivot_limit goal) sides t
  pub none_leased : AllLeaves (λ at leaf. IsNotLeased leaf) sides t

-- the lease is open at this place, and the tree may be put there: it is sound, has no more splits than were granted, and
-- each of them at a node whose relaxed points beat the value that the lease told
pub record MayGraft (b : Board) (way : List Side) (lease : Lease) (t : Tree) : Type 0 where
  pub is_leased : at_place b.tree way ≡ Some (AtLeaf (Leased lease))
  pub sound : IsSound b (sides_to b.tree way []) t
  pub within : made t ≤ lease.grant
  pub worthwhile : AllSplits (λ sides s. IsWorthwhile b.problem b.cuts lease.best sides) (sides_to b.tree way []) t

-- the tree stands in the place of the leased leaf
pub record IsGraft (b : Board) (seat : ℕ) (lease : Lease) (t : Tree) (best : Option Rational) (c : Board) : Type 0 where
  pub way : List Side
  pub may : MayGraft b way lease t
  pub is_best : best ≡ value_of b
  pub new : c ≡ after b (replaced b.tree way t) b.best (Grafting seat lease t) (Best best)

-- the better of the point and the best one is kept
pub record IsOffer (b : Board) (seat : ℕ) (x : List Rational) (best : Option Rational) (c : Board) : Type 0 where
  pub feasible : Feasible b.problem x
  pub sums : HasSums b.problem x
  pub is_best : best ≡ Some (objective_value b.problem (better_of b.problem b.best x))
  pub new : c ≡ after b b.tree (Some (better_of b.problem b.best x)) (Offering seat x) (Best best)

-- leased leaves are to be worked on again
pub record IsReclaim (b c : Board) : Type 0 where
  pub new : c ≡ after b (reclaimed b.tree) b.best Reclaiming Done

-- the event with its reply leads from the board b to the board c
abbrev pub Step : Board → Event → Reply → Board → Type 0
Step b (Leasing seat) (Given way lease) c = IsLease b seat way lease c
Step b (Idling seat) (StillLeased count) c = IsIdle b seat count c
Step b (Grafting seat lease t) (Best best) c = IsGraft b seat lease t best c
Step b (Offering seat x) (Best best) c = IsOffer b seat x best c
Step b Reclaiming Done c = IsReclaim b c
Step b event reply c = ⊥

-- ---- histories

-- the events of the log, in order, lead from the board b to the board c
abbrev pub IsHistory : Board → List Entry → Board → Type 0
IsHistory b [] c = b ≡ c
IsHistory b (e ∷ log) c = (next : Board) × Step b e.event e.reply next × IsHistory next log c

-- the board at the start: one leaf that is to be worked on, no best point, and no events
abbrev pub opening : Board → Board
opening b = record {
  problem = b.problem;
  cuts = b.cuts;
  split_limit = b.split_limit;
  pivot_limit = b.pivot_limit;
  tree = AtLeaf (Todo tt);
  best = None;
  log = [];
}

-- the board is the replay of its log from its opening board, whose cuts hold
pub record IsReplay (b : Board) : Type 0 where
  pub cuts : AllPass b.problem b.cuts
  pub history : IsHistory (opening b) b.log b
