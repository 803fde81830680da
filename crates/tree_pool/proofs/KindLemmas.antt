-- What the nodes of a tree are.
use Rattle.std.proofs.Common.{◌≡◌, ◌∙◌, ℕ, ◌+◌, ◌==◌, cond, List, [], ◌∷◌, ◌++◌, Bool, false, map, refl, ap, subst, arith}
use Rattle.std.proofs.lemmas.List.{map-append}
use Rattle.std.proofs.lemmas.Bool.Decides.{nat_tests}
use Rattle.verdicts.specs.Certificate.{Side as SideOf, Low as LowOf, High as HighOf}
use Rattle.search_node.specs.declared.node.SplitTaken.{SplitTaken}
use Rattle.search_tree.specs.declared.leaf.Lease.{Lease}
use Rattle.search_tree.specs.declared.leaf.Leaf.{Leaf}
use Rattle.search_tree.specs.declared.leaf.Leaf.TheVariants.{Todo, Treated, Leased, Refuted, Bounded, NotFitting, AtLimit}
use Rattle.search_tree.specs.declared.leaf.Slot.{Slot}
use Rattle.search_tree.specs.declared.leaf.Slot.TheVariants as slot
use Rattle.search_tree.specs.declared.event.Entry.{Entry}
use Rattle.search_tree.specs.Tree.{Tree, Divided, AtLeaf, IsTodo, AllLeaves, sum_of_leaves, of_lease, lease_of, leased, leased_under}
use Rattle.search_tree.specs.Slots.{slots_of}
use Rattle.tree_pool.specs.declared.refs.NodeRef.{NodeRef}
use Rattle.tree_pool.specs.declared.kind.Kind.{Kind}
use Rattle.tree_pool.specs.declared.kind.Kind.TheVariants as kind
use Rattle.tree_pool.specs.LogNodes.{node_at, nodes_in}
use Rattle.tree_pool.specs.Kinds.{leaf_kind, kind_of}
use Rattle.tree_pool.specs.Standing.{AreNodes}
use Rattle.tree_pool.specs.Ledger.{kinds_in, IsPlaceOf, HasNone, of_kind, sum_of_kinds, lease_count}
use Rattle.tree_pool.proofs.Preorders.{from_places, root_at}

pub kinds_are : (log : List Entry) (refs : List NodeRef) (t : Tree) → nodes_in log refs ≡ slots_of t → kinds_in log refs ≡ map kind_of (slots_of t)
kinds_are log refs t h = twice refs ∙ ap (map kind_of) h
  where
    twice : (refs : List NodeRef) → kinds_in log refs ≡ map kind_of (nodes_in log refs)
    twice [] = refl
    twice (r ∷ refs) = ap (λ (ks : List Kind). kind_of (node_at log r) ∷ ks) (twice refs)

-- ---- leaves by their kind

todo_kind : (leaf : Leaf) → leaf_kind leaf ≡ kind.ToDo → IsTodo leaf
todo_kind (Todo hint) h = tt
todo_kind (Treated hint) h = tt
todo_kind (Leased lease) h = cc
todo_kind (Refuted w) h = cc
todo_kind (Bounded w) h = cc
todo_kind (NotFitting e) h = cc
todo_kind (AtLimit bases) h = cc

kind_todo : (leaf : Leaf) → IsTodo leaf → leaf_kind leaf ≡ kind.ToDo
kind_todo (Todo hint) h = refl
kind_todo (Treated hint) h = refl
kind_todo (Leased lease) h = absurd h
kind_todo (Refuted w) h = absurd h
kind_todo (Bounded w) h = absurd h
kind_todo (NotFitting e) h = absurd h
kind_todo (AtLimit bases) h = absurd h

record IsUnder (leaf : Leaf) (n : ℕ) : Type 0 where
  pub lease : Lease
  pub is_leaf : leaf ≡ Leased lease
  pub is_number : lease.number ≡ n

under_kind : (leaf : Leaf) (n : ℕ) → leaf_kind leaf ≡ kind.LeasedUnder n → IsUnder leaf n
under_kind (Todo hint) n h = cc
under_kind (Treated hint) n h = cc
under_kind (Leased lease) n h = record { lease = lease; is_leaf = refl; is_number = cc }
under_kind (Refuted w) n h = cc
under_kind (Bounded w) n h = cc
under_kind (NotFitting e) n h = cc
under_kind (AtLimit bases) n h = cc

pub record IsTodoSlot (x : Slot) : Type 0 where
  pub leaf : Leaf
  pub is_slot : x ≡ slot.Leaf leaf
  pub is_todo : IsTodo leaf

pub todo_slot : (x : Slot) → kind_of x ≡ kind.ToDo → IsTodoSlot x
todo_slot (slot.Divided s) h = cc
todo_slot (slot.Leaf leaf) h = record { leaf = leaf; is_slot = refl; is_todo = todo_kind leaf h }

pub record IsUnderSlot (x : Slot) (n : ℕ) : Type 0 where
  pub lease : Lease
  pub is_slot : x ≡ slot.Leaf (Leased lease)
  pub is_number : lease.number ≡ n

pub under_slot : (x : Slot) (n : ℕ) → kind_of x ≡ kind.LeasedUnder n → IsUnderSlot x n
under_slot (slot.Divided s) n h = cc
under_slot (slot.Leaf leaf) n h = let under = under_kind leaf n h in record { lease = under.lease; is_slot = ap slot.Leaf under.is_leaf; is_number = under.is_number }

-- the same of a log and nodes that were lent
pub place_in : (k : Kind) (log lent : List Entry) (refs others : List NodeRef) (place : ℕ) → lent ≡ log → others ≡ refs → IsPlaceOf k lent others place → IsPlaceOf k log refs place
place_in k log lent refs others place e f h = subst (λ l. IsPlaceOf k l refs place) e (subst (λ r. IsPlaceOf k lent r place) f h)

pub none_in : (k : Kind) (log lent : List Entry) (refs others : List NodeRef) → lent ≡ log → others ≡ refs → HasNone k lent others → HasNone k log refs
none_in k log lent refs others e f h = subst (λ l. HasNone k l refs) e (subst (λ r. HasNone k lent r) f h)

-- ---- no leaf of a kind

pub none_todo : (log : List Entry) (t : Tree) (paths : List (List SplitTaken)) (refs : List NodeRef) → AreNodes (node_at log) t paths refs → HasNone kind.ToDo log refs → AllLeaves (λ sides leaf. ¬ (IsTodo leaf)) [] t
none_todo log t paths refs are none =
    from_places (node_at log) t paths refs are (λ leaf. ¬ (IsTodo leaf)) (λ p leaf within is_leaf todo. none p (record { within = within; is_kind = ap kind_of is_leaf ∙ kind_todo leaf todo })) t 0 [] (root_at (node_at log) t paths refs are)

abbrev one_or_none : Bool → ℕ
one_or_none t = cond t 1 0

zero_leaf : (leaf : Leaf) (n : ℕ) → ¬ (leaf_kind leaf ≡ kind.LeasedUnder n) → of_lease (λ lease. one_or_none (lease.number == n)) (lease_of leaf) ≡ 0
zero_leaf (Todo hint) n h = refl
zero_leaf (Treated hint) n h = refl
zero_leaf (Leased lease) n h = none_of lease.number n (λ e. h (ap kind.LeasedUnder e))
  where
    none_of : (m n : ℕ) → ¬ (m ≡ n) → one_or_none (m == n) ≡ 0
    none_of m n e = ap one_or_none (other m n e)
      where
        other : (m n : ℕ) → ¬ (m ≡ n) → (m == n) ≡ false
        other m n e = grind (arith, nat_tests)
zero_leaf (Refuted w) n h = refl
zero_leaf (Bounded w) n h = refl
zero_leaf (NotFitting e) n h = refl
zero_leaf (AtLimit bases) n h = refl

zero_tree : (t : Tree) (n : ℕ) (sides : List SideOf) → AllLeaves (λ sides leaf. ¬ (leaf_kind leaf ≡ kind.LeasedUnder n)) sides t → leased_under n t ≡ 0
zero_tree (AtLeaf leaf) n sides h = zero_leaf leaf n h
zero_tree (Divided s low high) n sides h = let l = zero_tree low n (LowOf s ∷ sides) h.0 in let r = zero_tree high n (HighOf s ∷ sides) h.1 in omega arith

pub none_under : (log : List Entry) (t : Tree) (paths : List (List SplitTaken)) (refs : List NodeRef) (n : ℕ) → AreNodes (node_at log) t paths refs → HasNone (kind.LeasedUnder n) log refs → leased_under n t ≡ 0
none_under log t paths refs n are none =
    zero_tree t n [] (from_places (node_at log) t paths refs are (λ leaf. ¬ (leaf_kind leaf ≡ kind.LeasedUnder n)) (λ p leaf within is_leaf e. none p (record { within = within; is_kind = ap kind_of is_leaf ∙ e })) t 0 [] (root_at (node_at log) t paths refs are))

-- ---- sums over leased leaves

leaf_number : (f : ℕ → ℕ) (leaf : Leaf) → of_kind f (leaf_kind leaf) ≡ of_lease (λ lease. f lease.number) (lease_of leaf)
leaf_number f (Todo hint) = refl
leaf_number f (Treated hint) = refl
leaf_number f (Leased lease) = refl
leaf_number f (Refuted w) = refl
leaf_number f (Bounded w) = refl
leaf_number f (NotFitting e) = refl
leaf_number f (AtLimit bases) = refl

sum_both : (f : ℕ → ℕ) (xs ys : List Kind) → sum_of_kinds f (xs ++ ys) ≡ sum_of_kinds f xs + sum_of_kinds f ys
sum_both f [] ys = omega arith
sum_both f (x ∷ xs) ys = let more = sum_both f xs ys in omega arith

sum_is : (f : ℕ → ℕ) (t : Tree) → sum_of_kinds f (map kind_of (slots_of t)) ≡ sum_of_leaves (λ leaf. of_lease (λ lease. f lease.number) (lease_of leaf)) t
sum_is f (AtLeaf leaf) = let e = leaf_number f leaf in omega arith
sum_is f (Divided s low high) =
    let both = ap (sum_of_kinds f) (map-append kind_of (slots_of low) (slots_of high)) in
    let parts = sum_both f (map kind_of (slots_of low)) (map kind_of (slots_of high)) in
    let l = sum_is f low in
    let h = sum_is f high in
    omega arith

pub leased_is : (kinds : List Kind) (t : Tree) → kinds ≡ map kind_of (slots_of t) → lease_count kinds ≡ leased t
leased_is kinds t are = ap lease_count are ∙ sum_is (λ n. 1) t
