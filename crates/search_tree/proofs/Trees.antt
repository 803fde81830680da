-- What holds of all splits and leaves of a tree with another one in a place.
use Rattle.std.proofs.Common.{◌≡◌, ℕ, ◌+◌, List, [], ◌∷◌, refl, ap, Option, Some, None, arith}
use Rattle.verdicts.specs.Certificate.{Split, Side as SideOf, Low as LowOf, High as HighOf}
use Rattle.certificate.specs.declared.split.Side.{Side}
use Rattle.certificate.specs.declared.split.Side.TheVariants.{Low, High}
use Rattle.search_tree.specs.declared.leaf.Lease.{Lease}
use Rattle.search_tree.specs.declared.leaf.Leaf.{Leaf}
use Rattle.search_tree.specs.declared.leaf.Leaf.TheVariants.{Todo, Treated, Leased, Refuted, Bounded, NotFitting, AtLimit}
use Rattle.search_tree.specs.Tree.{Tree, Divided, AtLeaf, IsTodo, IsNotLeased, lease_of, at_place, replaced, sides_to, AllSplits, AllLeaves, made, sum_of_leaves, of_lease, given_back, reclaimed}

pub all_leaves : (P Q : List SideOf → Leaf → Type 0) → ((sides : List SideOf) (leaf : Leaf) → P sides leaf → Q sides leaf) → (t : Tree) (sides : List SideOf) → AllLeaves P sides t → AllLeaves Q sides t
all_leaves P Q f (Divided s low high) sides h = (all_leaves P Q f low (LowOf s ∷ sides) h.0, all_leaves P Q f high (HighOf s ∷ sides) h.1)
all_leaves P Q f (AtLeaf leaf) sides h = f sides leaf h

pub leaves_replaced : (P : List SideOf → Leaf → Type 0) (t : Tree) (way : List Side) (other : Tree) (sides : List SideOf) → AllLeaves P sides t → AllLeaves P (sides_to t way sides) other → AllLeaves P sides (replaced t way other)
leaves_replaced P (Divided s low high) [] other sides h k = k
leaves_replaced P (AtLeaf leaf) [] other sides h k = k
leaves_replaced P (AtLeaf leaf) (side ∷ way) other sides h k = h
leaves_replaced P (Divided s low high) (Low ∷ way) other sides h k = (leaves_replaced P low way other (LowOf s ∷ sides) h.0 k, h.1)
leaves_replaced P (Divided s low high) (High ∷ way) other sides h k = (h.0, leaves_replaced P high way other (HighOf s ∷ sides) h.1 k)

pub splits_replaced : (P : List SideOf → Split → Type 0) (t : Tree) (way : List Side) (other : Tree) (sides : List SideOf) → AllSplits P sides t → AllSplits P (sides_to t way sides) other → AllSplits P sides (replaced t way other)
splits_replaced P (Divided s low high) [] other sides h k = k
splits_replaced P (AtLeaf leaf) [] other sides h k = k
splits_replaced P (AtLeaf leaf) (side ∷ way) other sides h k = h
splits_replaced P (Divided s low high) (Low ∷ way) other sides h k = (h.0, splits_replaced P low way other (LowOf s ∷ sides) h.1 k, h.2)
splits_replaced P (Divided s low high) (High ∷ way) other sides h k = (h.0, h.1, splits_replaced P high way other (HighOf s ∷ sides) h.2 k)

-- ---- counts

pub made_replaced : (t : Tree) (way : List Side) (leaf : Leaf) (other : Tree) → at_place t way ≡ Some (AtLeaf leaf) → made (replaced t way other) ≡ made t + made other
made_replaced (Divided s low high) [] leaf other h = cc
made_replaced (AtLeaf l) [] leaf other h = omega arith
made_replaced (AtLeaf l) (side ∷ way) leaf other h = cc
made_replaced (Divided s low high) (Low ∷ way) leaf other h = let more = made_replaced low way leaf other h in omega arith
made_replaced (Divided s low high) (High ∷ way) leaf other h = let more = made_replaced high way leaf other h in omega arith

pub sum_replaced : (f : Leaf → ℕ) (t : Tree) (way : List Side) (leaf : Leaf) (other : Tree) → at_place t way ≡ Some (AtLeaf leaf) → sum_of_leaves f (replaced t way other) + f leaf ≡ sum_of_leaves f t + sum_of_leaves f other
sum_replaced f (Divided s low high) [] leaf other h = cc
sum_replaced f (AtLeaf l) [] leaf other h = same l leaf h
  where
    same : (l leaf : Leaf) → Some (AtLeaf l) ≡ Some (AtLeaf leaf) → sum_of_leaves f other + f leaf ≡ f l + sum_of_leaves f other
    same l leaf e = let g : f l ≡ f leaf = cc in omega arith
sum_replaced f (AtLeaf l) (side ∷ way) leaf other h = cc
sum_replaced f (Divided s low high) (Low ∷ way) leaf other h = let more = sum_replaced f low way leaf other h in omega arith
sum_replaced f (Divided s low high) (High ∷ way) leaf other h = let more = sum_replaced f high way leaf other h in omega arith

-- ---- leaves that are not leased

pub todo_not_leased : (leaf : Leaf) → IsTodo leaf → IsNotLeased leaf
todo_not_leased (Todo hint) h = refl
todo_not_leased (Treated hint) h = refl
todo_not_leased (Leased lease) h = absurd h
todo_not_leased (Refuted w) h = absurd h
todo_not_leased (Bounded w) h = absurd h
todo_not_leased (NotFitting e) h = absurd h
todo_not_leased (AtLimit bases) h = absurd h

-- a sum over leases is 0
pub none_leased : (f : Lease → ℕ) (t : Tree) (sides : List SideOf) → AllLeaves (λ at leaf. IsNotLeased leaf) sides t → sum_of_leaves (λ leaf. of_lease f (lease_of leaf)) t ≡ 0
none_leased f (Divided s low high) sides h =
    let low_none = none_leased f low (LowOf s ∷ sides) h.0 in
    let high_none = none_leased f high (HighOf s ∷ sides) h.1 in
    omega arith
none_leased f (AtLeaf leaf) sides h = ap (of_lease f) h

-- ---- reclaimed leaves

pub made_reclaimed : (t : Tree) → made (reclaimed t) ≡ made t
made_reclaimed (Divided s low high) = rw (made_reclaimed low, made_reclaimed high) refl
made_reclaimed (AtLeaf leaf) = refl

back_not_leased : (leaf : Leaf) (o : Option Lease) → lease_of leaf ≡ o → IsNotLeased (given_back leaf o)
back_not_leased leaf None e = e
back_not_leased leaf (Some lease) e = refl

pub reclaimed_none_leased : (t : Tree) (sides : List SideOf) → AllLeaves (λ at leaf. IsNotLeased leaf) sides (reclaimed t)
reclaimed_none_leased (Divided s low high) sides = (reclaimed_none_leased low (LowOf s ∷ sides), reclaimed_none_leased high (HighOf s ∷ sides))
reclaimed_none_leased (AtLeaf leaf) sides = back_not_leased leaf (lease_of leaf) refl

pub splits_reclaimed : (P : List SideOf → Split → Type 0) (t : Tree) (sides : List SideOf) → AllSplits P sides t → AllSplits P sides (reclaimed t)
splits_reclaimed P (Divided s low high) sides h = (h.0, splits_reclaimed P low (LowOf s ∷ sides) h.1, splits_reclaimed P high (HighOf s ∷ sides) h.2)
splits_reclaimed P (AtLeaf leaf) sides h = tt

pub leaves_reclaimed : (P : List SideOf → Leaf → Type 0) → ((sides : List SideOf) → P sides (Todo tt)) → (t : Tree) (sides : List SideOf) → AllLeaves P sides t → AllLeaves P sides (reclaimed t)
leaves_reclaimed P f (Divided s low high) sides h = (leaves_reclaimed P f low (LowOf s ∷ sides) h.0, leaves_reclaimed P f high (HighOf s ∷ sides) h.1)
leaves_reclaimed P f (AtLeaf leaf) sides h = go (lease_of leaf)
  where
    go : (o : Option Lease) → P sides (given_back leaf o)
    go None = h
    go (Some lease) = f sides
