-- Searches that are under way.
use Rattle.std.specs.Prelude.{ℕ, ◌+◌, ◌*◌, ◌-◌, ◌≤◌, ◌≡◌, ◌⊎◌, Bool, true, false, List, [], Option, Some}
use Rattle.rational.specs.Rational.{Rational}
use Rattle.milp.specs.Problem.{Problem}
use Rattle.verdicts.specs.Certificate.{Side as SideOf, Derived}
use Rattle.search_tree.specs.declared.leaf.Lease.{Lease}
use Rattle.search_tree.specs.declared.leaf.Leaf.{Leaf}
use Rattle.search_tree.specs.declared.leaf.Leaf.TheVariants.{Todo, Treated, Leased, Refuted, Bounded, NotFitting, AtLimit}
use Rattle.search_tree.specs.Tree.{IsTodo, AllLeaves, lease_of, made, granted, sum_of_leaves}
use Rattle.search_tree.specs.Nodes.{IsTreated}
use Rattle.search_tree.specs.Board.{Board, value_of}
use Rattle.search_tree.specs.Finished.{IsThere}
use Rattle.search_tree.specs.Kept.{closed_node}

-- where no split is left: a leased leaf, whose node is treated against the best value
pub record IsSeen (p : Problem) (ds : List Derived) (best : Option Rational) (out : Bool) (sides : List SideOf) (leaf : Leaf) : Type 0 where
  pub is_out : out ≡ true
  pub lease : Lease
  pub leased : lease_of leaf ≡ Some lease
  pub treated : IsTreated p ds sides best

-- a leaf is to be worked on, closed, or seen
abbrev pub IsStanding : Problem → List Derived → Option Rational → Bool → List SideOf → Leaf → Type 0
IsStanding p ds best out sides leaf = IsTodo leaf ⊎ (IsThere (closed_node leaf) ⊎ IsSeen p ds best out sides leaf)

-- all leaves stand so; no open lease may make a split; and `out` only where all splits are made
pub record IsUnderway (b : Board) (best : Option Rational) (out : Bool) : Type 0 where
  pub leaves : AllLeaves (IsStanding b.problem b.cuts best out) [] b.tree
  pub none_granted : granted b.tree ≡ 0
  pub all_made : out ≡ true → b.split_limit ≤ made b.tree

-- the same against the best value of the board
abbrev pub IsGoing : Board → Type 0
IsGoing b = (out : Bool) × IsUnderway b (value_of b) out

-- ---- how much is left

-- 1 for a leaf that is to be worked on
abbrev pub to_do : Leaf → ℕ
to_do (Todo hint) = 1
to_do (Treated hint) = 1
to_do (Leased lease) = 0
to_do (Refuted w) = 0
to_do (Bounded w) = 0
to_do (NotFitting e) = 0
to_do (AtLimit bases) = 0

-- 1 for a leaf that is to be worked on or leased
abbrev pub not_ended : Leaf → ℕ
not_ended (Todo hint) = 1
not_ended (Treated hint) = 1
not_ended (Leased lease) = 1
not_ended (Refuted w) = 0
not_ended (Bounded w) = 0
not_ended (NotFitting e) = 0
not_ended (AtLimit bases) = 0

-- the splits that are left, twice, and the leaves that are to be worked on or leased
abbrev pub work_left : Board → ℕ
work_left b = (b.split_limit - made b.tree) * 2 + sum_of_leaves not_ended b.tree

abbrev pub count_to_do : Board → ℕ
count_to_do b = sum_of_leaves to_do b.tree

-- ---- rounds

-- the problem, its cuts and the limits are the same
pub record AreSame (b c : Board) : Type 0 where
  pub problem : c.problem ≡ b.problem
  pub cuts : c.cuts ≡ b.cuts
  pub splits : c.split_limit ≡ b.split_limit
  pub pivots : c.pivot_limit ≡ b.pivot_limit

-- no leaf is to be worked on
pub record IsAtEnd (b : Board) : Type 0 where
  pub going : IsGoing b
  pub none_todo : AllLeaves (λ sides leaf. ¬ (IsTodo leaf)) [] b.tree

-- less work is left, or as much and fewer leaves are to be worked on
abbrev pub IsLess : Board → Board → Type 0
IsLess b c = (work_left c + 1 ≤ work_left b) ⊎ ((work_left c ≡ work_left b) × (count_to_do c + 1 ≤ count_to_do b))

pub record IsFurther (b c : Board) : Type 0 where
  pub going : IsGoing c
  pub less : IsLess b c

-- what a round makes of the board b, where it found a leaf to work on, and where not
abbrev pub IsNext : Board → Bool → Board → Type 0
IsNext b true c = IsFurther b c
IsNext b false c = IsAtEnd c
