-- The leaves of a tree of which some may be leased with one lease.
use Rattle.std.proofs.Common.{◌≡◌, ◌∙◌, ℕ, ◌==◌, ◌≤◌, ◌⊎◌, inl, inr, List, [], ◌∷◌, cond, refl, sym, ap, subst, Option, Some, None, arith}
use Rattle.std.proofs.lemmas.Bool.{eq-eqb}
use Rattle.std.proofs.lemmas.Option.{same_Some}
use Rattle.verdicts.specs.Certificate.{Side as SideOf, Low as LowOf, High as HighOf}
use Rattle.certificate.specs.declared.split.Side.{Side}
use Rattle.certificate.specs.declared.split.Side.TheVariants.{Low, High}
use Rattle.search_tree.specs.declared.leaf.Lease.{Lease}
use Rattle.search_tree.specs.declared.leaf.Leaf.{Leaf}
use Rattle.search_tree.specs.declared.leaf.Leaf.TheVariants.{Todo, Treated, Leased, Refuted, Bounded, NotFitting, AtLimit}
use Rattle.search_tree.specs.Tree.{Tree, Divided, AtLeaf, lease_of, of_lease, at_place, replaced, sides_to, AllLeaves, leased_under}
use Rattle.search_tree.proofs.Laws.{sum_replaced}

pub all_leaves : (P Q : List SideOf → Leaf → Type 0) → ((sides : List SideOf) (leaf : Leaf) → P sides leaf → Q sides leaf) → (t : Tree) (sides : List SideOf) → AllLeaves P sides t → AllLeaves Q sides t
all_leaves P Q f (Divided s low high) sides h = (all_leaves P Q f low (LowOf s ∷ sides) h.0, all_leaves P Q f high (HighOf s ∷ sides) h.1)
all_leaves P Q f (AtLeaf leaf) sides h = f sides leaf h

pub all_of_both : (P Q R : List SideOf → Leaf → Type 0) → ((sides : List SideOf) (leaf : Leaf) → P sides leaf → Q sides leaf → R sides leaf) → (t : Tree) (sides : List SideOf) → AllLeaves P sides t → AllLeaves Q sides t → AllLeaves R sides t
all_of_both P Q R f (Divided s low high) sides h k = (all_of_both P Q R f low (LowOf s ∷ sides) h.0 k.0, all_of_both P Q R f high (HighOf s ∷ sides) h.1 k.1)
all_of_both P Q R f (AtLeaf leaf) sides h k = f sides leaf h k

pub leaves_replaced : (P : List SideOf → Leaf → Type 0) (t : Tree) (way : List Side) (other : Tree) (sides : List SideOf) → AllLeaves P sides t → AllLeaves P (sides_to t way sides) other → AllLeaves P sides (replaced t way other)
leaves_replaced P (Divided s low high) [] other sides h k = k
leaves_replaced P (AtLeaf leaf) [] other sides h k = k
leaves_replaced P (AtLeaf leaf) (side ∷ way) other sides h k = h
leaves_replaced P (Divided s low high) (Low ∷ way) other sides h k = (leaves_replaced P low way other (LowOf s ∷ sides) h.0 k, h.1)
leaves_replaced P (Divided s low high) (High ∷ way) other sides h k = (h.0, leaves_replaced P high way other (HighOf s ∷ sides) h.1 k)

-- P of the leaf, or it is leased with this lease
abbrev pub OrLeased : (List SideOf → Leaf → Type 0) → Lease → List SideOf → Leaf → Type 0
OrLeased P lease sides leaf = P sides leaf ⊎ (lease_of leaf ≡ Some lease)

abbrev count : ℕ → Option Lease → ℕ
count n o = of_lease (λ lease. cond (lease.number == n) 1 0) o

one : (n : ℕ) → count n (Some (record { number = n; grant = 0; best = None })) ≡ 1
one n = ap (λ t. cond t 1 0) (eq-eqb n n refl)

pub not_both : (a : ℕ) → a ≡ 0 → a ≡ 1 → ⊥
not_both a e f = omega (arith, e, f)

leased_there : (t : Tree) (way : List Side) (lease : Lease) → at_place t way ≡ Some (AtLeaf (Leased lease)) → 1 ≤ leased_under lease.number t
leased_there t way lease h =
    let sum = sum_replaced (λ leaf. count lease.number (lease_of leaf)) t way (Leased lease) (AtLeaf (Todo tt)) h in
    let here : count lease.number (Some lease) ≡ 1 = one lease.number in
    let none : count lease.number None ≡ 0 = refl in
    omega (arith, sum, here, none)

none_leased : (P : List SideOf → Leaf → Type 0) (lease : Lease) (t : Tree) (sides : List SideOf) → AllLeaves (OrLeased P lease) sides t → leased_under lease.number t ≡ 0 → AllLeaves P sides t
none_leased P lease (Divided s low high) sides h e = (none_leased P lease low (LowOf s ∷ sides) h.0 (omega (arith, e)), none_leased P lease high (HighOf s ∷ sides) h.1 (omega (arith, e)))
none_leased P lease (AtLeaf leaf) sides h e = go h
  where
    go : P sides leaf ⊎ (lease_of leaf ≡ Some lease) → P sides leaf
    go (inl k) = k
    go (inr k) = absurd (not_both (count lease.number (lease_of leaf)) e (ap (count lease.number) k ∙ one lease.number))

-- another tree in the place of the leased leaf
pub grafted : (P : List SideOf → Leaf → Type 0) (lease : Lease) (t : Tree) (way : List Side) (new : Tree) (sides : List SideOf) → AllLeaves (OrLeased P lease) sides t → leased_under lease.number t ≤ 1 → at_place t way ≡ Some (AtLeaf (Leased lease)) → AllLeaves P (sides_to t way sides) new → AllLeaves P sides (replaced t way new)
grafted P lease (Divided s low high) [] new sides h one there k = k
grafted P lease (AtLeaf leaf) [] new sides h one there k = k
grafted P lease (AtLeaf leaf) (side ∷ way) new sides h one there k = cc
grafted P lease (Divided s low high) (Low ∷ way) new sides h one there k =
    let here = leased_there low way lease there in
    (grafted P lease low way new (LowOf s ∷ sides) h.0 (omega (arith, one, here)) there k, none_leased P lease high (HighOf s ∷ sides) h.1 (omega (arith, one, here)))
grafted P lease (Divided s low high) (High ∷ way) new sides h one there k =
    let here = leased_there high way lease there in
    (none_leased P lease low (LowOf s ∷ sides) h.0 (omega (arith, one, here)), grafted P lease high way new (HighOf s ∷ sides) h.1 (omega (arith, one, here)) there k)

is_leased : (leaf : Leaf) (lease : Lease) → lease_of leaf ≡ Some lease → leaf ≡ Leased lease
is_leased (Todo hint) lease h = cc
is_leased (Treated hint) lease h = cc
is_leased (Leased l) lease h = ap (λ (x : Lease). Leased x) (same_Some l lease h)
is_leased (Refuted w) lease h = cc
is_leased (Bounded w) lease h = cc
is_leased (NotFitting e) lease h = cc
is_leased (AtLimit bases) lease h = cc

-- the leased leaf stays leased
pub stays_leased : (P : List SideOf → Leaf → Type 0) (lease : Lease) (t : Tree) (sides : List SideOf) → AllLeaves (OrLeased P lease) sides t → ((way : List Side) → at_place t way ≡ Some (AtLeaf (Leased lease)) → P (sides_to t way sides) (Leased lease)) → AllLeaves P sides t
stays_leased P lease (Divided s low high) sides h f = (stays_leased P lease low (LowOf s ∷ sides) h.0 (λ way there. f (Low ∷ way) there), stays_leased P lease high (HighOf s ∷ sides) h.1 (λ way there. f (High ∷ way) there))
stays_leased P lease (AtLeaf leaf) sides h f = go h
  where
    go : P sides leaf ⊎ (lease_of leaf ≡ Some lease) → P sides leaf
    go (inl k) = k
    go (inr k) = let same = is_leased leaf lease k in subst (P sides) (sym same) (f [] (ap (λ l. Some (AtLeaf l)) same))
