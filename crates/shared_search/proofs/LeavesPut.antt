-- What may be put where a leaf is leased to a pass.
use Rattle.std.proofs.Common.{ℕ, ◌≡◌, ◌+◌, ◌≤◌, ◌⊎◌, List, [], ◌∷◌, ◌++◌, length, Option, Some, None, refl, sym, ap, subst, inl, inr, ⊎_elim}
use Rattle.std.specs.Option.{IfSome}
use Rattle.rational.specs.Rational.{Rational}
use Rattle.milp.specs.Problem.{Problem}
use Rattle.milp.specs.Points.{objective_value}
use Rattle.verdicts.specs.Certificate.{Side as SideOf, Derived}
use Rattle.turn_pool.specs.Calls.{Called}
use Rattle.search_node.specs.Sides.{sides_of}
use Rattle.search_node.specs.declared.node.Node.{Node}
use Rattle.search_tree.specs.declared.leaf.Lease.{Lease}
use Rattle.search_tree.specs.declared.leaf.Leaf.{Leaf}
use Rattle.search_tree.specs.declared.leaf.Leaf.TheVariants.{Todo, Treated, Leased, Refuted, Bounded, NotFitting, AtLimit}
use Rattle.search_tree.specs.declared.event.Entry.{Entry}
use Rattle.search_tree.specs.Tree.{Tree, Divided, AtLeaf, IsTodo, IsNotLeased, AllSplits, AllLeaves, made}
use Rattle.search_tree.specs.Nodes.{KeepsLeaf, IsTreated, IsWorthwhile, IsHonestSplit}
use Rattle.search_tree.specs.Board.{Board, IsTold, value_told}
use Rattle.search_tree.specs.Kept.{closed_node}
use Rattle.search_tree.specs.Finished.{IsThere}
use Rattle.search_tree.specs.Honest.{AreHonest, IsHonestWay}
use Rattle.branch_search.specs.declared.fragment.Fragment.{Fragment}
use Rattle.branch_search.specs.declared.fragment.Grown.{Grown}
use Rattle.branch_search.specs.declared.fragment.Grown.TheVariants.{Ready, Ungranted}
use Rattle.branch_search.specs.Grown.{IsHonestTree, AreTodoOrClosed, IsOutcome, best_with, IsUngranted, IsGrown}
use Rattle.branch_search.proofs.Growth.{BoundedStays, leaves_as_good, none_leased_in}
use Rattle.board_pool.specs.declared.asked.LeasedLeaf.{LeasedLeaf}
use Rattle.board_pool.specs.declared.asked.Asked.{Asked}
use Rattle.board_pool.specs.declared.asked.Asked.TheVariants as answers
use Rattle.board_pool.specs.Asks.{IsAsked}
use Rattle.board_pool.specs.Touched.{touched}
use Rattle.board_pool.specs.Searches.{log_of, IsOfSearch}
use Rattle.board_pool.specs.OpenLeases.{IsLeasedBelow, lease_to}
use Rattle.board_pool.specs.Stuck.{IsNotStuck, NoneStuck}
use Rattle.board_pool.specs.Grafts.{MayBePut}
use Rattle.shared_search.specs.declared.task.Task.{Task}
use Rattle.shared_search.specs.Holders.{first_of, IsTaskOf, IsSameHolder}
use Rattle.shared_search.specs.Leaves.{IsOpenFor, IsHeld, IsGiven, IsToldLeaf, IsLeafFor, IsGrownFor, IsFragmentFor, IsOffered}
use Rattle.shared_search.proofs.Views.{BoardView}

-- ---- a leaf that was asked for

-- a lease that a pass was given is open for it, on an honest way, the node that was told is that of the leaf, and the limit leaves
-- room for the splits that are granted
abbrev pub GivenIsOpen : Type 0
GivenIsOpen = (v w : BoardView) (leaf : LeasedLeaf) → Called touched log_of IsOfSearch (λ seat b (asked : Asked) c. IsAsked b seat asked c) v (answers.Leased leaf) w
    → (sides : List SideOf) × IsLeasedBelow v.key.first.value w.spans w.seen leaf.lease sides × IsHonestWay v.key.first.value.problem v.key.first.value.cuts v.key.first.value.split_limit sides × IfSome leaf.node (λ node. sides_of node.splits ≡ sides)
    × (length sides + leaf.lease.grant ≤ v.key.first.value.split_limit)

pub told_leaf : GivenIsOpen → (v w : BoardView) (asked : Asked) → Called touched log_of IsOfSearch (λ seat b (a : Asked) c. IsAsked b seat a c) v asked w → IsToldLeaf w asked
told_leaf given v w (answers.Idle count) c = tt
told_leaf given v w (answers.Leased leaf) c =
    let g = given v w leaf c in
    let same : first_of w ≡ first_of v = ap (λ (x : BoardView). first_of x) c.sees in
    record {
      sides = g.0;
      held = record {
        is_open = subst (λ (first : Board). IsLeasedBelow first w.spans w.seen leaf.lease g.0) (sym same) g.1;
        way = subst (λ (first : Board). IsHonestWay first.problem first.cuts first.split_limit g.0) (sym same) g.2;
        room = subst (λ (first : Board). length g.0 + leaf.lease.grant ≤ first.split_limit) (sym same) g.4;
      };
      node = g.3;
    }

pub given_held : (v : BoardView) (leaf : LeasedLeaf) (node : Node) → IsGiven v leaf → leaf.node ≡ Some node → IsHeld v leaf.lease (sides_of node.splits)
given_held v leaf node g is =
    let same : sides_of node.splits ≡ g.sides = subst (λ (o : Option Node). IfSome o (λ n. sides_of n.splits ≡ g.sides)) is g.node in
    subst (λ (sides : List SideOf). IsHeld v leaf.lease sides) (sym same) g.held

-- ---- values that were told

told_at : (before since : List Entry) (e : Entry) (v : Rational) → value_told e.reply ≡ Some v → IsTold v (before ++ e ∷ since)
told_at [] since e v is = inl is
told_at (x ∷ before) since e v is = inr (told_at before since e v is)

pub all_told : (before since : List Entry) (e : Entry) (best : Option Rational) → value_told e.reply ≡ best → IfSome best (λ v. IsTold v (before ++ e ∷ since))
all_told before since e None is = tt
all_told before since e (Some v) is = told_at before since e v is

-- the value that a lease tells was told
told_by_lease : (v : BoardView) (lease : Lease) (sides : List SideOf) → IsOpenFor v lease sides → IfSome lease.best (λ u. IsTold u v.seen)
told_by_lease v lease sides l =
    let o = l.is_open in
    let P : List Entry → Type 0 = λ log. IfSome lease.best (λ u. IsTold u log) in
    subst P (sym o.is_log) (all_told o.before o.since (lease_to o.seat l.way lease) lease.best refl)

-- ---- what grows at a leaf

-- a leaf that is given back, treated
pub treated_leaf : (v : BoardView) (lease : Lease) (sides : List SideOf) (hint : Unit {0}) → IsOpenFor v lease sides → IsTreated (first_of v).problem (first_of v).cuts sides None → IsLeafFor v lease (Treated hint)
treated_leaf v lease sides hint is_open treated = record {
  sides = sides;
  is_open = is_open;
  goal = None;
  is_told = tt;
  keeps = treated;
  not_leased = refl;
  not_stuck = tt;
}

abbrev pub TreatedStays : Type 0
TreatedStays = (p : Problem) (ds : List Derived) (sides : List SideOf) (best : Option Rational) → IsTreated p ds sides best → IsTreated p ds sides None

-- a leaf that is to be split, where no split is granted
pub ungranted_leaf : TreatedStays → (v : BoardView) (lease : Lease) (grown : Grown) (hint : Unit {0}) → IsGrownFor v lease grown → grown ≡ Ungranted hint → IsLeafFor v lease (Treated hint)
ungranted_leaf treated_stays v lease grown hint h is =
    let first = first_of v in
    let u : IsUngranted first.problem first.cuts h.sides lease.best lease.grant = subst (IsGrown first.problem first.cuts first.pivot_limit h.sides lease.best lease.grant) is h.grown in
    treated_leaf v lease h.sides hint h.is_open (treated_stays first.problem first.cuts h.sides lease.best u.treated)

pub fragment_for : (v : BoardView) (lease : Lease) (grown : Grown) (f : Fragment) → IsGrownFor v lease grown → grown ≡ Ready f → IsFragmentFor v lease f
fragment_for v lease grown f h is =
    let first = first_of v in
    record { sides = h.sides; is_open = h.is_open; fragment = subst (IsGrown first.problem first.cuts first.pivot_limit h.sides lease.best lease.grant) is h.grown }

pub with_point : (v : BoardView) (lease : Lease) (f : Fragment) (x : List Rational) → IsFragmentFor v lease f → f.found ≡ Some x → IsFragmentFor v lease (record { tree = f.tree; found = Some x })
with_point v lease f x h is = subst (λ (o : Option (List Rational)). IsFragmentFor v lease (record { tree = f.tree; found = o })) is h

-- ---- a tree that is put

not_stuck : (leaf : Leaf) → IsTodo leaf ⊎ IsThere (closed_node leaf) → IsNotStuck leaf
not_stuck (Todo hint) h = tt
not_stuck (Treated hint) h = tt
not_stuck (Leased lease) h = tt
not_stuck (Refuted w) h = tt
not_stuck (Bounded w) h = tt
not_stuck (NotFitting e) h = ⊎_elim (λ (never : ⊥). never) (λ (never : ⊥). never) h
not_stuck (AtLimit bases) h = ⊎_elim (λ (never : ⊥). never) (λ (never : ⊥). never) h

none_stuck_in : (t : Tree) → AreTodoOrClosed t → NoneStuck t
none_stuck_in (Divided s low high) h = (none_stuck_in low h.0, none_stuck_in high h.1)
none_stuck_in (AtLeaf leaf) h = not_stuck leaf h

abbrev pub TreeMayBePut : Type 0
TreeMayBePut = (first : Board) (spans : List (ℕ × ℕ)) (log : List Entry) (lease : Lease) (sides : List SideOf) (goal : Option Rational) (t : Tree) → IsLeasedBelow first spans log lease sides → IfSome goal (λ v. IsTold v log)
    → AllSplits (IsHonestSplit first.problem first.cuts) sides t → AllSplits (λ at s. IsWorthwhile first.problem first.cuts lease.best at) sides t
    → AllLeaves (KeepsLeaf first.problem first.cuts first.pivot_limit goal) sides t → AllLeaves (λ at leaf. IsNotLeased leaf) sides t → NoneStuck t → made t ≤ lease.grant → MayBePut first spans log lease t

-- a tree that is closed against a value that was told
tree_put : TreeMayBePut → (first : Board) (spans : List (ℕ × ℕ)) (log : List Entry) (lease : Lease) (sides : List SideOf) (goal : Option Rational) (t : Tree) → IsLeasedBelow first spans log lease sides → IfSome goal (λ v. IsTold v log)
    → IsHonestTree first.problem first.cuts first.pivot_limit sides lease.best goal t → IsOutcome lease.grant t → MayBePut first spans log lease t
tree_put may first spans log lease sides goal t is_open told tree outcome =
    may first spans log lease sides goal t is_open told tree.splits tree.worthwhile tree.leaves (none_leased_in t sides outcome.leaves) (none_stuck_in t outcome.leaves) outcome.within

-- where no point was found, it is closed against the value that the lease told
pub put_at_once : TreeMayBePut → (v : BoardView) (lease : Lease) (f : Fragment) → IsFragmentFor v lease f → f.found ≡ None → MayBePut (first_of v) v.spans v.seen lease f.tree
put_at_once may v lease f h none =
    let first = first_of v in
    let tree = subst (λ (goal : Option Rational). IsHonestTree first.problem first.cuts first.pivot_limit h.sides lease.best goal f.tree) (ap (best_with first.problem lease.best) none) h.fragment.tree in
    tree_put may first v.spans v.seen lease h.sides lease.best f.tree h.is_open (told_by_lease v lease h.sides h.is_open) tree h.fragment.outcome

-- after the point that was found is offered, the tree is closed against the best value
pub put_then : BoundedStays → TreeMayBePut → (v w : BoardView) (lease : Lease) (x : List Rational) (t : Tree) (best : Option Rational) → IsFragmentFor v lease (record { tree = t; found = Some x }) → IsOffered v x best w → IsSameHolder v w
    → MayBePut (first_of w) w.spans w.seen lease t
put_then law may v w lease x t best h offered same =
    let first = first_of v in
    let same_first : first_of w ≡ first = ap (λ key. key.first.value) same.key in
    let tree = h.fragment.tree in
    let leaves = leaves_as_good law first.problem first.cuts first.pivot_limit (Some (objective_value first.problem x)) best offered.no_worse h.sides t tree.leaves in
    let is_open = subst (λ (b : Board). IsLeasedBelow b w.spans w.seen lease h.sides) same_first (offered.leases lease h.sides h.is_open) in
    subst (λ (b : Board). MayBePut b w.spans w.seen lease t) (sym same_first)
    (tree_put may first w.spans w.seen lease h.sides best t is_open offered.is_told (record { splits = tree.splits; worthwhile = tree.worthwhile; leaves = leaves }) h.fragment.outcome)

-- ---- the task

pub honest_of_task : (first : Board) (task : Task) (sides : List SideOf) → IsTaskOf first task → IsHonestWay first.problem first.cuts first.split_limit sides → AreHonest task.problem task.cuts sides
honest_of_task first task sides of way = rw (of.problem, of.cuts) way.splits

pub grown_of_task : (v : BoardView) (task : Task) (lease : Lease) (sides : List SideOf) (grown : Grown) → IsTaskOf (first_of v) task → IsHeld v lease sides → IsGrown task.problem task.cuts task.pivot_limit sides lease.best lease.grant grown → IsGrownFor v lease grown
grown_of_task v task lease sides grown of held h = record { sides = sides; is_open = held.is_open; grown = rw (sym of.problem, sym of.cuts, sym of.pivot_limit) h }
