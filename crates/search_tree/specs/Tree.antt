-- The tree of a search: splits and leaves.
use Rattle.std.specs.Prelude.{ℕ, suc, ◌+◌, ◌⊎◌, ◌==◌, ◌≡◌, cond, List, [], ◌∷◌, Option, Some, None}
use Rattle.verdicts.specs.Certificate.{Split, Side as SideOf, Low as LowOf, High as HighOf}
use Rattle.certificate.specs.declared.split.Side.{Side}
use Rattle.certificate.specs.declared.split.Side.TheVariants.{Low, High}
use Rattle.search_tree.specs.declared.leaf.Lease.{Lease}
use Rattle.search_tree.specs.declared.leaf.Leaf.{Leaf}
use Rattle.search_tree.specs.declared.leaf.Leaf.TheVariants.{Todo, Treated, Leased, Refuted, Bounded, NotFitting, AtLimit}

-- a split, its low side and its high side; or a leaf
pub data Tree : Type 0 where
  Divided : Split → Tree → Tree → Tree
  AtLeaf : Leaf → Tree

-- it is to be worked on
abbrev pub IsTodo : Leaf → Type 0
IsTodo (Todo hint) = Unit {0}
IsTodo (Treated hint) = Unit {0}
IsTodo (Leased lease) = ⊥
IsTodo (Refuted w) = ⊥
IsTodo (Bounded w) = ⊥
IsTodo (NotFitting e) = ⊥
IsTodo (AtLimit bases) = ⊥

-- the lease of a leaf on which someone works
abbrev pub lease_of : Leaf → Option Lease
lease_of (Todo hint) = None
lease_of (Treated hint) = None
lease_of (Leased lease) = Some lease
lease_of (Refuted w) = None
lease_of (Bounded w) = None
lease_of (NotFitting e) = None
lease_of (AtLimit bases) = None

abbrev pub IsNotLeased : Leaf → Type 0
IsNotLeased leaf = lease_of leaf ≡ None

-- ---- places in a tree: the sides taken from the root on

-- what stands at a place
abbrev pub at_place : Tree → List Side → Option Tree
at_place t [] = Some t
at_place (AtLeaf leaf) (side ∷ way) = None
at_place (Divided s low high) (Low ∷ way) = at_place low way
at_place (Divided s low high) (High ∷ way) = at_place high way

-- the tree with another one in this place
abbrev pub replaced : Tree → List Side → Tree → Tree
replaced t [] other = other
replaced (AtLeaf leaf) (side ∷ way) other = AtLeaf leaf
replaced (Divided s low high) (Low ∷ way) other = Divided s (replaced low way other) high
replaced (Divided s low high) (High ∷ way) other = Divided s low (replaced high way other)

-- the splits on the way to a place, the latest first, onto those above
abbrev pub sides_to : Tree → List Side → List SideOf → List SideOf
sides_to t [] above = above
sides_to (AtLeaf leaf) (side ∷ way) above = above
sides_to (Divided s low high) (Low ∷ way) above = sides_to low way (LowOf s ∷ above)
sides_to (Divided s low high) (High ∷ way) above = sides_to high way (HighOf s ∷ above)

-- ---- of all splits and leaves

-- P of each split, and the splits on the way to it, the latest first
abbrev pub AllSplits : (List SideOf → Split → Type 0) → List SideOf → Tree → Type 0
AllSplits P sides (Divided s low high) = P sides s × AllSplits P (LowOf s ∷ sides) low × AllSplits P (HighOf s ∷ sides) high
AllSplits P sides (AtLeaf leaf) = Unit {0}

-- P of each leaf, and the splits on the way to it
abbrev pub AllLeaves : (List SideOf → Leaf → Type 0) → List SideOf → Tree → Type 0
AllLeaves P sides (Divided s low high) = AllLeaves P (LowOf s ∷ sides) low × AllLeaves P (HighOf s ∷ sides) high
AllLeaves P sides (AtLeaf leaf) = P sides leaf

-- P of some leaf, and the splits on the way to it
abbrev pub SomeLeaf : (List SideOf → Leaf → Type 0) → List SideOf → Tree → Type 0
SomeLeaf P sides (Divided s low high) = SomeLeaf P (LowOf s ∷ sides) low ⊎ SomeLeaf P (HighOf s ∷ sides) high
SomeLeaf P sides (AtLeaf leaf) = P sides leaf

-- ---- counts

-- the number of splits
abbrev pub made : Tree → ℕ
made (Divided s low high) = suc (made low + made high)
made (AtLeaf leaf) = 0

-- the sum of f over the leaves
abbrev pub sum_of_leaves : (Leaf → ℕ) → Tree → ℕ
sum_of_leaves f (Divided s low high) = sum_of_leaves f low + sum_of_leaves f high
sum_of_leaves f (AtLeaf leaf) = f leaf

abbrev pub of_lease : (Lease → ℕ) → Option Lease → ℕ
of_lease f None = 0
of_lease f (Some lease) = f lease

-- the number of splits that open leases may still make
abbrev pub granted : Tree → ℕ
granted t = sum_of_leaves (λ leaf. of_lease (λ lease. lease.grant) (lease_of leaf)) t

-- the number of leased leaves
abbrev pub leased : Tree → ℕ
leased t = sum_of_leaves (λ leaf. of_lease (λ lease. 1) (lease_of leaf)) t

-- the number of leaves that are leased under this number
abbrev pub leased_under : ℕ → Tree → ℕ
leased_under n t = sum_of_leaves (λ leaf. of_lease (λ lease. cond (lease.number == n) 1 0) (lease_of leaf)) t

-- each leased leaf is to be worked on again
abbrev pub given_back : Leaf → Option Lease → Leaf
given_back leaf None = leaf
given_back leaf (Some lease) = Todo tt

abbrev pub reclaimed : Tree → Tree
reclaimed (Divided s low high) = Divided s (reclaimed low) (reclaimed high)
reclaimed (AtLeaf leaf) = AtLeaf (given_back leaf (lease_of leaf))
