-- Trees that grow at a leased leaf.
use Rattle.std.proofs.Common.{◌≡◌, ◌∙◌, ℕ, ◌+◌, ◌-◌, ◌≤◌, ◌⊎◌, inl, inr, List, [], ◌∷◌, ◌++◌, length, refl, sym, ap, subst, Option, Some, None, IfSome, Result, Ok, Err, IfErr, arith}
use Rattle.std.specs.Result.{IsErrAnd}
use Rattle.rational.specs.Rational.{Rational, ◌*ℚ◌}
use Rattle.rational.proofs.Laws as Q
use Rattle.milp.specs.Problem.{Problem}
use Rattle.milp.specs.Points.{objective_value, sign_of}
use Rattle.verdicts.specs.Certificate.{Side as SideOf, Low as LowOf, High as HighOf, Weights, Derived, Bound}
use Rattle.certificate.specs.Ways.{side_of}
use Rattle.search_node.specs.Sides.{sides_of}
use Rattle.search_node.specs.declared.node.SplitTaken.{SplitTaken}
use Rattle.search_node.specs.declared.node.Node.{Node}
use Rattle.search_tree.specs.declared.leaf.Leaf.{Leaf}
use Rattle.search_tree.specs.declared.leaf.Leaf.TheVariants.{Todo, Treated, Leased, Refuted, Bounded, NotFitting, AtLimit}
use Rattle.search_tree.specs.Tree.{Tree, Divided, AtLeaf, IsTodo, IsNotLeased, AllSplits, AllLeaves}
use Rattle.search_tree.specs.Nodes.{IsWorthwhile, IsTreated, Beats, NodePasses, KeepsLeaf}
use Rattle.search_tree.proofs.Laws.{todo_not_leased}
use Rattle.search_tree.specs.Kept.{IsNoBetter, closed_node}
use Rattle.search_tree.specs.Finished.{IsThere}
use Rattle.branch_search.specs.declared.treatment.Found.{Found}
use Rattle.branch_search.specs.declared.treatment.Fractional.{Fractional}
use Rattle.branch_search.specs.declared.fault.LeafFault.{LeafFault}
use Rattle.branch_search.specs.declared.growing.Progress.{Progress}
use Rattle.branch_search.specs.declared.growing.Decided.{Decided}
use Rattle.branch_search.specs.declared.growing.Decided.TheVariants.{Closed, ToSplit}
use Rattle.branch_search.specs.Treatment.{IsFound, IsToSplit}
use Rattle.branch_search.specs.Grown.{AreTodoOrClosed, IsOnward, unchanged, better, IsGrowth, IsClosed, IsDecided}

-- ---- values that get better

-- the laws of search_tree that are used
abbrev pub BoundedStays : Type 0
BoundedStays = (p : Problem) (ds : List Derived) (sides : List SideOf) (w : Weights) (goal best : Option Rational) → IfSome goal (IsNoBetter p best) → NodePasses p goal ds sides (Bound w) → NodePasses p best ds sides (Bound w)

abbrev pub TreatedIsWorthwhile : Type 0
TreatedIsWorthwhile = (p : Problem) (ds : List Derived) (sides : List SideOf) (best : Option Rational) → IsTreated p ds sides best → IsWorthwhile p ds best sides

own_value : (p : Problem) (best : Option Rational) → IfSome best (IsNoBetter p best)
own_value p None = tt
own_value p (Some v) = Q.le_refl (sign_of p.direction *ℚ v)

beaten : (p : Problem) (best : Option Rational) (x : List Rational) → Beats p best x → IfSome best (IsNoBetter p (Some (objective_value p x)))
beaten p None x h = tt
beaten p (Some v) x h = Q.le_of_lt _ _ h

no_worse : (p : Problem) (old new : Progress) → IsOnward p old new → IfSome old.best (IsNoBetter p new.best)
no_worse p old new (unchanged best found) = subst (λ (o : Option Rational). IfSome old.best (IsNoBetter p o)) (sym best) (own_value p old.best)
no_worse p old new (better x point best found) = subst (λ (o : Option Rational). IfSome old.best (IsNoBetter p o)) (sym best) (beaten p old.best x point.beats)

beats_both : (p : Problem) (best : Option Rational) (x y : List Rational) → Beats p best x → Beats p (Some (objective_value p x)) y → Beats p best y
beats_both p None x y h k = tt
beats_both p (Some v) x y h k = Q.lt_trans _ _ _ k h

-- who beats the value behind beats the one before
beats_first : (p : Problem) (old new : Progress) (y : List Rational) → IsOnward p old new → Beats p new.best y → Beats p old.best y
beats_first p old new y (unchanged best found) h = subst (λ (o : Option Rational). Beats p o y) best h
beats_first p old new y (better x point best found) h = beats_both p old.best x y point.beats (subst (λ (o : Option Rational). Beats p o y) best h)

stays : (p : Problem) (old : Progress) → IsOnward p old old
stays p old = unchanged refl refl

pub onward_then : (p : Problem) (a b c : Progress) → IsOnward p a b → IsOnward p b c → IsOnward p a c
onward_then p a b c h (unchanged best found) = go h
  where
    go : IsOnward p a b → IsOnward p a c
    go (unchanged b_best b_found) = unchanged (best ∙ b_best) (found ∙ b_found)
    go (better x point b_best b_found) = better x point (best ∙ b_best) (found ∙ b_found)
onward_then p a b c h (better x point best found) = better x (record { feasible = point.feasible; sums = point.sums; beats = beats_first p a b x h point.beats }) best found

-- ---- trees against better values

leaf_as_good : BoundedStays → (p : Problem) (ds : List Derived) (limit : ℕ) (goal best : Option Rational) → IfSome goal (IsNoBetter p best) → (sides : List SideOf) (leaf : Leaf) → KeepsLeaf p ds limit goal sides leaf → KeepsLeaf p ds limit best sides leaf
leaf_as_good law p ds limit goal best h sides (Todo hint) k = tt
leaf_as_good law p ds limit goal best h sides (Treated hint) k = k
leaf_as_good law p ds limit goal best h sides (Leased lease) k = tt
leaf_as_good law p ds limit goal best h sides (Refuted w) k = k
leaf_as_good law p ds limit goal best h sides (Bounded w) k = law p ds sides w goal best h k
leaf_as_good law p ds limit goal best h sides (NotFitting e) k = k
leaf_as_good law p ds limit goal best h sides (AtLimit bases) k = k

pub leaves_as_good : BoundedStays → (p : Problem) (ds : List Derived) (limit : ℕ) (goal best : Option Rational) → IfSome goal (IsNoBetter p best) → (sides : List SideOf) (t : Tree) → AllLeaves (KeepsLeaf p ds limit goal) sides t → AllLeaves (KeepsLeaf p ds limit best) sides t
leaves_as_good law p ds limit goal best h sides (Divided s low high) k = (leaves_as_good law p ds limit goal best h (LowOf s ∷ sides) low k.0, leaves_as_good law p ds limit goal best h (HighOf s ∷ sides) high k.1)
leaves_as_good law p ds limit goal best h sides (AtLeaf leaf) k = leaf_as_good law p ds limit goal best h sides leaf k

worthwhile_first : (p : Problem) (ds : List Derived) (old new : Progress) → IsOnward p old new → (sides : List SideOf) (t : Tree) → AllSplits (λ at s. IsWorthwhile p ds new.best at) sides t → AllSplits (λ at s. IsWorthwhile p ds old.best at) sides t
worthwhile_first p ds old new h sides (Divided s low high) k =
    (record { point = k.0.point; is_optimum = k.0.is_optimum; beats = beats_first p old new k.0.point h k.0.beats }, worthwhile_first p ds old new h (LowOf s ∷ sides) low k.1, worthwhile_first p ds old new h (HighOf s ∷ sides) high k.2)
worthwhile_first p ds old new h sides (AtLeaf leaf) k = tt

-- ---- what grows

leaf_grown : (p : Problem) (ds : List Derived) (limit : ℕ) (sides : List SideOf) (old new : Progress) (leaf : Leaf) (t : Tree) → IsClosed p ds limit sides old new leaf → t ≡ AtLeaf leaf → IsGrowth p ds limit sides old new t
leaf_grown p ds limit sides old new leaf t h e = subst (IsGrowth p ds limit sides old new) (sym e) (record {
  tree = record { splits = tt; worthwhile = tt; leaves = h.keeps };
  leaves = inr h.there;
  count = let left = h.left in omega (arith, left);
  onward = h.onward;
})

-- a side whose node is closed
pub side_closed : (p : Problem) (ds : List Derived) (limit : ℕ) (sides : List SideOf) (node : Node) (old new : Progress) (leaf : Leaf) (t : Tree) → sides_of node.splits ≡ sides → IsClosed p ds limit (sides_of node.splits) old new leaf → t ≡ AtLeaf leaf → IsGrowth p ds limit sides old new t
side_closed p ds limit sides node old new leaf t at h e = leaf_grown p ds limit sides old new leaf t (subst (λ (there : List SideOf). IsClosed p ds limit there old new leaf) at h) e

-- the high side grows first, then the low one
pub split_grown : BoundedStays → TreatedIsWorthwhile → (p : Problem) (ds : List Derived) (limit : ℕ) (sides : List SideOf) (f : Fractional) (old start mid new : Progress) (low high t : Tree) → 1 ≤ old.left → start.left ≡ old.left - 1 → start.best ≡ old.best → start.found ≡ old.found
    → IsToSplit p ds sides old.best f → IsGrowth p ds limit (HighOf f.split ∷ sides) start mid high → IsGrowth p ds limit (LowOf f.split ∷ sides) mid new low → t ≡ Divided f.split low high → IsGrowth p ds limit sides old new t
split_grown law treated p ds limit sides f old start mid new low high t one left best found h a b e =
    let first : IsOnward p old start = unchanged best found in
    let to_mid = onward_then p old start mid first a.onward in
    let counts_a = a.count in
    let counts_b = b.count in
    subst (IsGrowth p ds limit sides old new) (sym e) (record {
      tree = record {
        splits = (h.split, b.tree.splits, a.tree.splits);
        worthwhile = (treated p ds sides old.best h.treated, worthwhile_first p ds old mid to_mid (LowOf f.split ∷ sides) low b.tree.worthwhile, worthwhile_first p ds old start first (HighOf f.split ∷ sides) high a.tree.worthwhile);
        leaves = (b.tree.leaves, leaves_as_good law p ds limit mid.best new.best (no_worse p mid new b.onward) (HighOf f.split ∷ sides) high a.tree.leaves);
      };
      leaves = (b.leaves, a.leaves);
      count = omega (arith, one, left, counts_a, counts_b);
      onward = onward_then p old mid new to_mid b.onward;
    })

-- ---- what is made of it

pub closed_not_leased : (leaf : Leaf) → IsThere (closed_node leaf) → IsNotLeased leaf
closed_not_leased (Todo hint) h = absurd h
closed_not_leased (Treated hint) h = absurd h
closed_not_leased (Leased lease) h = absurd h
closed_not_leased (Refuted w) h = refl
closed_not_leased (Bounded w) h = refl
closed_not_leased (NotFitting e) h = absurd h
closed_not_leased (AtLimit bases) h = absurd h

not_leased : (leaf : Leaf) → IsTodo leaf ⊎ IsThere (closed_node leaf) → IsNotLeased leaf
not_leased leaf (inl h) = todo_not_leased leaf h
not_leased leaf (inr h) = closed_not_leased leaf h

-- no leaf that is to be worked on, or closed, is leased
pub none_leased_in : (t : Tree) (sides : List SideOf) → AreTodoOrClosed t → AllLeaves (λ at leaf. IsNotLeased leaf) sides t
none_leased_in (Divided s low high) sides h = (none_leased_in low (LowOf s ∷ sides) h.0, none_leased_in high (HighOf s ∷ sides) h.1)
none_leased_in (AtLeaf leaf) sides h = not_leased leaf h

-- ---- what is decided

pub closed_as_before : (p : Problem) (ds : List Derived) (limit : ℕ) (sides : List SideOf) (old : Progress) (leaf : Leaf) → KeepsLeaf p ds limit old.best sides leaf → IsThere (closed_node leaf) → IsClosed p ds limit sides old old leaf
closed_as_before p ds limit sides old leaf keeps there = record { there = there; keeps = keeps; left = refl; onward = stays p old }

pub found_closed : (p : Problem) (ds : List Derived) (limit : ℕ) (node : Node) (old new : Progress) (f : Found) (leaf : Leaf) → IsFound p ds limit (sides_of node.splits) old.best f → leaf ≡ Bounded f.weights
    → new ≡ record old { best = Some f.value; found = Some f.point } → IsDecided p ds limit node old new (Closed leaf)
found_closed p ds limit node old new f leaf h is_leaf is_new =
    let sides = sides_of node.splits in
    let now : Progress = record old { best = Some f.value; found = Some f.point } in
    let L : Leaf → Type 0 = λ l. IsClosed p ds limit sides old now l in
    let N : Progress → Type 0 = λ n. IsClosed p ds limit sides old n leaf in
    subst N (sym is_new) (subst L (sym is_leaf) (record {
      there = tt;
      keeps = h.closed;
      left = refl;
      onward = better f.point (record { feasible = h.feasible; sums = h.sums; beats = h.beats }) (ap Some h.value) refl;
    }))

-- what is decided of a node that is closed, and of one that is to be split
pub closed_of : (p : Problem) (ds : List Derived) (limit : ℕ) (node : Node) (old new : Progress) (decided : Decided) (leaf : Leaf) → decided ≡ Closed leaf → IsDecided p ds limit node old new decided → IsClosed p ds limit (sides_of node.splits) old new leaf
closed_of p ds limit node old new decided leaf is h = subst (IsDecided p ds limit node old new) is h

pub to_split_of : (p : Problem) (ds : List Derived) (limit : ℕ) (node : Node) (old new : Progress) (decided : Decided) (parent : Node) (f : Fractional) → decided ≡ ToSplit parent f → IsDecided p ds limit node old new decided → (parent ≡ node) × (new ≡ old) × IsToSplit p ds (sides_of node.splits) old.best f
to_split_of p ds limit node old new decided parent f is h = subst (IsDecided p ds limit node old new) is h

-- ---- nodes below

side_of_last : (taken : List SplitTaken) (t : SplitTaken) → sides_of (taken ++ t ∷ []) ≡ side_of t.split t.side ∷ sides_of taken
side_of_last [] t = refl
side_of_last (u ∷ taken) t = ap (λ (sides : List SideOf). sides ++ side_of u.split u.side ∷ []) (side_of_last taken t)

pub sides_below : (taken more : List SplitTaken) (t : SplitTaken) → more ≡ taken ++ t ∷ [] → sides_of more ≡ side_of t.split t.side ∷ sides_of taken
sides_below taken more t e = ap sides_of e ∙ side_of_last taken t

-- ---- faults

-- a fault that a `?` hands on
pub handed_on : {A : Type 0} (r : Result A LeafFault) (fault : LeafFault) (P : LeafFault → Type 0) → IsErrAnd r (λ d. d ≡ fault) → P fault → IfErr r P
handed_on (Ok a) fault P is h = tt
handed_on (Err d) fault P is h = subst P (sym is) h

pub short_below : (sides below : List SideOf) (first : SideOf) (left splits : ℕ) → below ≡ first ∷ sides → length sides + 1 + left ≤ splits → length below ≤ splits
short_below sides below first left splits at room = let count = ap length at in omega (arith, count, room)

-- the splits of the grant leave room on the way
pub room_at : (node parent : Node) (old new : Progress) (splits : ℕ) → parent ≡ node → new ≡ old → length (sides_of node.splits) + old.left ≤ splits → length (sides_of parent.splits) + new.left ≤ splits
room_at node parent old new splits same kept room =
    let count = ap (λ (n : Node). length (sides_of n.splits)) same in
    let left = ap (λ (g : Progress). g.left) kept in
    omega (arith, count, left, room)

pub room_below : (node parent : Node) (sides : List SideOf) (first : SideOf) (old new : Progress) (splits : ℕ) → sides_of node.splits ≡ first ∷ sides → parent ≡ node → new ≡ old → length sides + 1 + old.left ≤ splits → length (sides_of parent.splits) + new.left ≤ splits
room_below node parent sides first old new splits at same kept room = let count = ap length at in room_at node parent old new splits same kept (omega (arith, count, room))
