-- What rounds keep, and that less work is left after each.
use Rattle.std.proofs.Common.{◌≡◌, ◌∙◌, ℕ, suc, ◌+◌, ◌*◌, ◌-◌, ◌≤◌, min, inl, inr, List, [], Bool, true, false, cond, refl, sym, ap, subst, Option, arith, ◌<◌, ◌∷◌}
use Rattle.rational.specs.Rational.{Rational}
use Rattle.milp.specs.Problem.{Problem}
use Rattle.verdicts.specs.Certificate.{Side as SideOf, Low as LowOf, High as HighOf, Derived}
use Rattle.certificate.specs.declared.split.Side.{Side}
use Rattle.search_tree.specs.declared.event.Event.{Event}
use Rattle.search_tree.specs.declared.event.Event.TheVariants.{Leasing, Grafting, Offering, Reclaiming}
use Rattle.search_tree.specs.declared.event.Reply.{Reply}
use Rattle.search_tree.specs.declared.event.Reply.TheVariants.{Given, Best, Done}
use Rattle.search_tree.specs.declared.leaf.Lease.{Lease}
use Rattle.search_tree.specs.declared.leaf.Leaf.{Leaf}
use Rattle.search_tree.specs.declared.leaf.Leaf.TheVariants.{Todo, Treated, Leased, Refuted, Bounded, NotFitting, AtLimit}
use Rattle.search_tree.specs.Tree.{Tree, AtLeaf, IsTodo, AllLeaves, replaced, sides_to, lease_of, of_lease, made, granted, sum_of_leaves, given_back, reclaimed, Divided}
use Rattle.search_tree.specs.Board.{Board, after, value_of, most_granted}
use Rattle.search_tree.specs.Kept.{IsKept, closed_node}
use Rattle.search_tree.specs.Finished.{IsThere}
use Rattle.search_tree.specs.Steps.{Step, IsLease, IsOffer, IsReclaim}
use Rattle.search_tree.proofs.Laws.{made_reclaimed, made_replaced, none_leased, reclaimed_none_leased, sum_replaced, todo_not_leased}
use Rattle.branch_search.specs.Grown.{AreTodoOrClosed, IsSplitOrClosed, IsOutcome}
use Rattle.branch_search.specs.Settled.{seat, IsPut, IsWorked, IsLeft, IsRound}
use Rattle.branch_search.specs.declared.settling.Round.{Round}
use Rattle.branch_search.specs.declared.settling.Round.TheVariants.{Worked, Left, Idle}
use Rattle.branch_search.specs.Underway.{IsStanding, IsUnderway, IsGoing, to_do, not_ended, work_left, count_to_do, IsAtEnd, IsLess, IsFurther, IsNext}
use Rattle.branch_search.proofs.Growth.{closed_not_leased, none_leased_in}
use Rattle.branch_search.proofs.Leased.{OrLeased, all_leaves, leaves_replaced, grafted, stays_leased}

-- a leaf is leased, and all others stand as in a search that is under way
record IsAtWork (b : Board) (best : Option Rational) (out : Bool) (lease : Lease) : Type 0 where
  leaves : AllLeaves (OrLeased (IsStanding b.problem b.cuts best out) lease) [] b.tree
  grants : granted b.tree ≡ lease.grant
  all_made : out ≡ true → b.split_limit ≤ made b.tree
  grant : lease.grant ≡ 0 → b.split_limit ≤ made b.tree

one_not_ended : (leaf : Leaf) → IsTodo leaf → not_ended leaf ≡ 1
one_not_ended (Todo hint) h = refl
one_not_ended (Treated hint) h = refl
one_not_ended (Leased lease) h = absurd h
one_not_ended (Refuted w) h = absurd h
one_not_ended (Bounded w) h = absurd h
one_not_ended (NotFitting e) h = absurd h
one_not_ended (AtLimit bases) h = absurd h

one_to_do : (leaf : Leaf) → IsTodo leaf → to_do leaf ≡ 1
one_to_do (Todo hint) h = refl
one_to_do (Treated hint) h = refl
one_to_do (Leased lease) h = absurd h
one_to_do (Refuted w) h = absurd h
one_to_do (Bounded w) h = absurd h
one_to_do (NotFitting e) h = absurd h
one_to_do (AtLimit bases) h = absurd h

all_ended : (leaf : Leaf) → IsThere (closed_node leaf) → not_ended leaf ≡ 0
all_ended (Todo hint) h = absurd h
all_ended (Treated hint) h = absurd h
all_ended (Leased lease) h = absurd h
all_ended (Refuted w) h = refl
all_ended (Bounded w) h = refl
all_ended (NotFitting e) h = absurd h
all_ended (AtLimit bases) h = absurd h

no_grant : (sum limit : ℕ) → min most_granted (limit - sum) ≡ 0 → limit ≤ sum
no_grant sum limit h = omega (arith, h)

same_value : (b : Board) (t : Tree) (event : Event) (reply : Reply) (c : Board) → c ≡ after b t b.best event reply → value_of c ≡ value_of b
same_value b t event reply c e = ap value_of e

-- ---- a lease

leased : (b : Board) (best : Option Rational) (out : Bool) (way : List Side) (lease : Lease) (m : Board) → IsUnderway b best out → IsLease b seat way lease m → IsAtWork m best out lease × (work_left m ≡ work_left b) × (count_to_do m + 1 ≡ count_to_do b)
leased b best out way lease m u h =
    let leaf = AtLeaf (Leased lease) in
    let P = IsStanding b.problem b.cuts best out in
    let none : of_lease (λ (l : Lease). l.grant) (lease_of h.leaf) ≡ 0 = ap (of_lease (λ (l : Lease). l.grant)) (todo_not_leased h.leaf h.is_todo) in
    let grants = sum_replaced (λ l. of_lease (λ lease. lease.grant) (lease_of l)) b.tree way h.leaf leaf h.there in
    let to_dos = sum_replaced to_do b.tree way h.leaf leaf h.there in
    let ends = sum_replaced not_ended b.tree way h.leaf leaf h.there in
    let splits = made_replaced b.tree way h.leaf leaf h.there in
    let now = u.none_granted in
    let Q : Board → Type 0 = λ c. IsAtWork c best out lease × (work_left c ≡ work_left b) × (count_to_do c + 1 ≡ count_to_do b) in
    let same : made (replaced b.tree way leaf) ≡ made b.tree = omega (arith, splits) in
    let new = replaced b.tree way leaf in
    subst Q (sym h.new) (
      record {
        leaves = leaves_replaced (OrLeased P lease) b.tree way leaf [] (all_leaves P (OrLeased P lease) (λ sides l k. inl k) b.tree [] u.leaves) (inr refl);
        grants = omega (arith, grants, none, now);
        all_made = λ t. let k = u.all_made t in omega (arith, same, k);
        grant = λ z. let k = no_grant (made b.tree + granted b.tree) b.split_limit (sym (ap (λ (l : Lease). l.grant) h.is_lease) ∙ z) in omega (arith, same, k, now);
      },
      ap (λ n. (b.split_limit - n) * 2 + sum_of_leaves not_ended new) same ∙ ap (λ n. (b.split_limit - made b.tree) * 2 + n) (as_many (sum_of_leaves not_ended new) (sum_of_leaves not_ended b.tree) (not_ended h.leaf) (one_not_ended h.leaf h.is_todo) ends),
      fewer (sum_of_leaves to_do new) (sum_of_leaves to_do b.tree) (to_do h.leaf) (one_to_do h.leaf h.is_todo) to_dos,
    )
  where
    as_many : (a t one : ℕ) → one ≡ 1 → a + one ≡ t + 1 → a ≡ t
    as_many a t one e f = omega (arith, e, f)

    fewer : (a t one : ℕ) → one ≡ 1 → a + one ≡ t + 0 → a + 1 ≡ t
    fewer a t one e f = omega (arith, e, f)

-- ---- an offer

offered : (b : Board) (old : Option Rational) (out : Bool) (lease : Lease) (x : List Rational) (best : Option Rational) (m : Board) → IsAtWork b old out lease → IsOffer b seat x best m → IsAtWork m old out lease × (work_left m ≡ work_left b)
offered b old out lease x best m w h =
    let Q : Board → Type 0 = λ c. IsAtWork c old out lease × (work_left c ≡ work_left b) in
    subst Q (sym h.new) (record { leaves = w.leaves; grants = w.grants; all_made = w.all_made; grant = w.grant }, refl)

-- ---- a graft

record IsFitting (b : Board) (best : Option Rational) (out : Bool) (lease : Lease) (sides : List SideOf) (t : Tree) : Type 0 where
  leaves : AllLeaves (IsStanding b.problem b.cuts best out) sides t
  none_granted : granted t ≡ 0
  balance : sum_of_leaves not_ended t ≤ made t * 2
  within : made t ≤ lease.grant

stands_in : (p : Problem) (ds : List Derived) (best : Option Rational) (out : Bool) (t : Tree) (sides : List SideOf) → AreTodoOrClosed t → AllLeaves (IsStanding p ds best out) sides t
stands_in p ds best out (Divided s low high) sides h = (stands_in p ds best out low (LowOf s ∷ sides) h.0, stands_in p ds best out high (HighOf s ∷ sides) h.1)
stands_in p ds best out (AtLeaf leaf) sides (inl h) = inl h
stands_in p ds best out (AtLeaf leaf) sides (inr h) = inr (inl h)

one_at_most : (leaf : Leaf) → not_ended leaf ≤ 1
one_at_most (Todo hint) = omega arith
one_at_most (Treated hint) = omega arith
one_at_most (Leased lease) = omega arith
one_at_most (Refuted w) = omega arith
one_at_most (Bounded w) = omega arith
one_at_most (NotFitting e) = omega arith
one_at_most (AtLimit bases) = omega arith

-- a tree has one leaf more than splits
few_leaves : (t : Tree) → sum_of_leaves not_ended t ≤ made t + 1
few_leaves (Divided s low high) = let a = few_leaves low in let b = few_leaves high in omega (arith, a, b)
few_leaves (AtLeaf leaf) = one_at_most leaf

-- a tree that is closed or split at its root has no more leaves that are not ended than twice its splits
in_balance : (t : Tree) → IsSplitOrClosed t → sum_of_leaves not_ended t ≤ made t * 2
in_balance (Divided s low high) h = let few = few_leaves (Divided s low high) in omega (arith, few)
in_balance (AtLeaf leaf) h = let here = all_ended leaf h in omega (arith, here)

fitting : (b : Board) (best : Option Rational) (out : Bool) (lease : Lease) (sides : List SideOf) (t : Tree) → IsOutcome lease.grant t → IsFitting b best out lease sides t
fitting b best out lease sides t h = record {
  leaves = stands_in b.problem b.cuts best out t sides h.leaves;
  none_granted = none_leased (λ l. l.grant) t sides (none_leased_in t sides h.leaves);
  balance = in_balance t h.root;
  within = h.within;
}

less : (limit made more left new granted : ℕ) → more ≤ granted → made + granted ≤ limit → new ≤ more * 2 → (limit - (made + more)) * 2 + (left + new) ≤ (limit - made) * 2 + left
less limit made more left new granted h k l = omega (arith, h, k, l)

put : (b : Board) (best : Option Rational) (out : Bool) (lease : Lease) (c : Board) → IsAtWork b best out lease → IsKept b → IsPut b lease c → IsUnderway c best out × (work_left c + 1 ≤ work_left b)
put b best out lease c w kept h =
    let g = h.graft in
    let there = g.may.is_leased in
    let fits = fitting b best out lease (sides_to b.tree g.way []) h.tree h.outcome in
    let P = IsStanding b.problem b.cuts best out in
    let grants = sum_replaced (λ l. of_lease (λ lease. lease.grant) (lease_of l)) b.tree g.way (Leased lease) h.tree there in
    let ends = sum_replaced not_ended b.tree g.way (Leased lease) h.tree there in
    let splits = made_replaced b.tree g.way (Leased lease) h.tree there in
    let now = w.grants in
    let new = fits.none_granted in
    let Q : Board → Type 0 = λ d. IsUnderway d best out × (work_left d + 1 ≤ work_left b) in
    let parts = less b.split_limit (made b.tree) (made h.tree) (sum_of_leaves not_ended b.tree) (sum_of_leaves not_ended h.tree) (granted b.tree) (omega (arith, fits.within, now)) kept.within fits.balance in
    subst Q (sym g.new) (
      record {
        leaves = grafted P lease b.tree g.way h.tree [] w.leaves (kept.one_lease lease.number) there fits.leaves;
        none_granted = omega (arith, grants, now, new);
        all_made = λ t. let k = w.all_made t in omega (arith, splits, k);
      },
      rest (b.split_limit) (made (replaced b.tree g.way h.tree)) (made b.tree + made h.tree) (sum_of_leaves not_ended (replaced b.tree g.way h.tree)) (sum_of_leaves not_ended b.tree + sum_of_leaves not_ended h.tree) (work_left b) splits ends parts,
    )
  where
    rest : (l a b t u left : ℕ) → a ≡ b → t + 1 ≡ u → (l - b) * 2 + u ≤ left → (l - a) * 2 + t + 1 ≤ left
    rest l a b t u left e f h = omega (arith, e, f, h)

-- ---- leaves that are to be worked on again

back : (b : Board) (old best : Option Rational) (out : Bool) (sides : List SideOf) (leaf : Leaf) → IsStanding b.problem b.cuts old out sides leaf → IsStanding b.problem b.cuts best out sides (given_back leaf (lease_of leaf))
back b old best out sides leaf h = go h
  where
    P : Option Lease → Type 0
    P o = IsStanding b.problem b.cuts best out sides (given_back leaf o)

    go : IsStanding b.problem b.cuts old out sides leaf → P (lease_of leaf)
    go (inl k) = subst P (sym (todo_not_leased leaf k)) (inl k)
    go (inr (inl k)) = subst P (sym (closed_not_leased leaf k)) (inr (inl k))
    go (inr (inr k)) = subst P (sym k.leased) (inl tt)

all_back : (b : Board) (old best : Option Rational) (out : Bool) (t : Tree) (sides : List SideOf) → AllLeaves (IsStanding b.problem b.cuts old out) sides t → AllLeaves (IsStanding b.problem b.cuts best out) sides (reclaimed t)
all_back b old best out (Divided s low high) sides h = (all_back b old best out low (LowOf s ∷ sides) h.0, all_back b old best out high (HighOf s ∷ sides) h.1)
all_back b old best out (AtLeaf leaf) sides h = back b old best out sides leaf h

same_not_ended : (leaf : Leaf) → not_ended (given_back leaf (lease_of leaf)) ≡ not_ended leaf
same_not_ended (Todo hint) = refl
same_not_ended (Treated hint) = refl
same_not_ended (Leased lease) = refl
same_not_ended (Refuted w) = refl
same_not_ended (Bounded w) = refl
same_not_ended (NotFitting e) = refl
same_not_ended (AtLimit bases) = refl

all_not_ended : (t : Tree) → sum_of_leaves not_ended (reclaimed t) ≡ sum_of_leaves not_ended t
all_not_ended (Divided s low high) = let a = all_not_ended low in let b = all_not_ended high in omega (arith, a, b)
all_not_ended (AtLeaf leaf) = same_not_ended leaf

taken_back : (b : Board) (old best : Option Rational) (out : Bool) (c : Board) → IsUnderway b old out → IsReclaim b c → IsUnderway c best out × (work_left c ≡ work_left b)
taken_back b old best out c u h =
    let Q : Board → Type 0 = λ d. IsUnderway d best out × (work_left d ≡ work_left b) in
    let splits = made_reclaimed b.tree in
    subst Q (sym h.new) (
      record {
        leaves = all_back b old best out b.tree [] u.leaves;
        none_granted = none_leased (λ lease. lease.grant) (reclaimed b.tree) [] (reclaimed_none_leased b.tree []);
        all_made = λ t. let k = u.all_made t in omega (arith, splits, k);
      },
      ap (λ n. (b.split_limit - n) * 2 + sum_of_leaves not_ended (reclaimed b.tree)) splits ∙ ap (λ n. (b.split_limit - made b.tree) * 2 + n) (all_not_ended b.tree),
    )

-- ---- a leaf that stays leased

out_too : (b : Board) (best : Option Rational) (out : Bool) (sides : List SideOf) (leaf : Leaf) → IsStanding b.problem b.cuts best out sides leaf → IsStanding b.problem b.cuts best true sides leaf
out_too b best out sides leaf (inl k) = inl k
out_too b best out sides leaf (inr (inl k)) = inr (inl k)
out_too b best out sides leaf (inr (inr k)) = inr (inr (record { is_out = refl; lease = k.lease; leased = k.leased; treated = k.treated }))

or_too : (b : Board) (best : Option Rational) (out : Bool) (lease : Lease) (sides : List SideOf) (leaf : Leaf) → OrLeased (IsStanding b.problem b.cuts best out) lease sides leaf → OrLeased (IsStanding b.problem b.cuts best true) lease sides leaf
or_too b best out lease sides leaf (inl k) = inl (out_too b best out sides leaf k)
or_too b best out lease sides leaf (inr k) = inr k

left : (b : Board) (out : Bool) (lease : Lease) (c : Board) → IsAtWork b (value_of b) out lease → IsLeft b lease c → IsUnderway c (value_of c) true × (work_left c ≡ work_left b) × (count_to_do c ≡ count_to_do b)
left b out lease c w h =
    let Q : Board → Type 0 = λ d. IsUnderway d (value_of d) true × (work_left d ≡ work_left b) × (count_to_do d ≡ count_to_do b) in
    let best = value_of b in
    let P = IsStanding b.problem b.cuts best true in
    subst Q (sym h.same) (
      record {
        leaves = stays_leased P lease b.tree [] (all_leaves (OrLeased (IsStanding b.problem b.cuts best out) lease) (OrLeased P lease) (or_too b best out lease) b.tree [] w.leaves) (λ way there. inr (inr (record { is_out = refl; lease = lease; leased = refl; treated = h.treated way there })));
        none_granted = w.grants ∙ h.grant;
        all_made = λ t. w.grant h.grant;
      },
      refl,
      refl,
    )

-- ---- rounds

abbrev pub KeepsSteps : Type 0
KeepsSteps = (b c : Board) (event : Event) (reply : Reply) → IsKept b → Step b event reply c → IsKept c

worked : (b : Board) (out : Bool) (lease : Lease) (c : Board) → KeepsSteps → IsAtWork b (value_of b) out lease → IsKept b → IsWorked b lease c → IsUnderway c (value_of c) out × (work_left c + 1 ≤ work_left b)
worked b out lease c keeps w kept (IsWorked.at_once h) =
    let k = put b (value_of b) out lease c w kept h in
    let g = h.graft in
    let Q : Option Rational → Type 0 = λ best. IsUnderway c best out in
    (subst Q (sym (same_value b _ (Grafting seat lease h.tree) (Best h.best) c g.new)) k.0, k.1)
worked b out lease c keeps w kept (IsWorked.offered h) =
    let m = h.told in
    let d = h.closed in
    let told = offered b (value_of b) out lease h.point h.best m w h.offer in
    let k = put m (value_of b) out lease d told.0 (keeps b m (Offering seat h.point) (Best h.best) kept h.offer) h.put in
    let r = taken_back d (value_of b) (value_of c) out c k.0 h.reclaim in
    let all = told.1 in
    let some = k.1 in
    let last = r.1 in
    (r.0, omega (arith, all, some, last))

at_work : (b : Board) (out : Bool) (way : List Side) (lease : Lease) (m : Board) → IsUnderway b (value_of b) out → IsLease b seat way lease m → IsAtWork m (value_of m) out lease × (work_left m ≡ work_left b) × (count_to_do m + 1 ≡ count_to_do b)
at_work b out way lease m u h =
    let Q : Option Rational → Type 0 = λ best. IsAtWork m best out lease in
    let w = leased b (value_of b) out way lease m u h in
    (subst Q (sym (same_value b _ (Leasing seat) (Given way lease) m h.new)) w.0, w.1, w.2)

after_worked : (b c : Board) → KeepsSteps → IsKept b → IsGoing b → IsRound b Worked c → IsFurther b c
after_worked b c keeps kept (out, u) h =
    let m = h.board in
    let w = at_work b out h.way h.lease m u h.is_lease in
    let k = worked m out h.lease c keeps w.0 (keeps b m (Leasing seat) (Given h.way h.lease) kept h.is_lease) h.settled in
    let all = w.1 in
    let some = k.1 in
    record { going = (out, k.0); less = inl (omega (arith, all, some)) }

after_left : (b c : Board) → IsGoing b → IsRound b Left c → IsFurther b c
after_left b c (out, u) h =
    let m = h.board in
    let w = at_work b out h.way h.lease m u h.is_lease in
    let k = left m out h.lease c w.0 h.settled in
    let count = w.2 in
    let same = k.2 in
    record { going = (true, k.0); less = inr (k.1 ∙ w.1, omega (arith, count, same)) }

after_idle : (b c : Board) → IsGoing b → IsRound b Idle c → IsAtEnd c
after_idle b c (out, u) h =
    let Q : Board → Type 0 = λ d. IsAtEnd d in
    subst Q (sym h.is_idle.new) (record { going = (out, record { leaves = u.leaves; none_granted = u.none_granted; all_made = u.all_made }); none_todo = h.is_idle.none_todo })

pub next_worked : (b c : Board) (r : Round) → KeepsSteps → IsKept b → IsGoing b → r ≡ Worked → IsRound b r c → IsFurther b c
next_worked b c r keeps kept u e h = let P : Round → Type 0 = λ a. IsRound b a c in after_worked b c keeps kept u (subst P e h)

pub next_left : (b c : Board) (r : Round) → IsGoing b → r ≡ Left → IsRound b r c → IsFurther b c
next_left b c r u e h = let P : Round → Type 0 = λ a. IsRound b a c in after_left b c u (subst P e h)

pub next_idle : (b c : Board) (r : Round) → IsGoing b → r ≡ Idle → IsRound b r c → IsAtEnd c
next_idle b c r u e h = let P : Round → Type 0 = λ a. IsRound b a c in after_idle b c u (subst P e h)

-- ---- the loop

-- between rounds: under way, with no more work left than `most`; or at the end
abbrev pub IsBetween : ℕ → Bool → Board → Type 0
IsBetween most true b = IsGoing b × (work_left b ≤ most)
IsBetween most false b = IsAtEnd b

pub still_going : (most : ℕ) (more : Bool) (b : Board) → more ≡ true → IsBetween most more b → IsGoing b × (work_left b ≤ most)
still_going most more b e h = let P : Bool → Type 0 = λ t. IsBetween most t b in subst P e h

no_more : (leaf : Leaf) → to_do leaf ≤ not_ended leaf
no_more (Todo hint) = omega arith
no_more (Treated hint) = omega arith
no_more (Leased lease) = omega arith
no_more (Refuted w) = omega arith
no_more (Bounded w) = omega arith
no_more (NotFitting e) = omega arith
no_more (AtLimit bases) = omega arith

few_to_do : (t : Tree) → sum_of_leaves to_do t ≤ sum_of_leaves not_ended t
few_to_do (Divided s low high) = let a = few_to_do low in let b = few_to_do high in omega (arith, a, b)
few_to_do (AtLeaf leaf) = no_more leaf

-- the work that is left, and then the leaves that are to be worked on, as one number, where no more than `most` is left
abbrev pub weight : ℕ → Board → ℕ
weight most b = work_left b * suc most + count_to_do b

lower : (n m most t u : ℕ) → m + 1 ≤ n → t ≤ most → m * suc most + t + 1 ≤ n * suc most + u
lower n m most t u h k =
    let same : n ≡ m + 1 + (n - (m + 1)) = omega (arith, h) in
    let P : ℕ → Type 0 = λ a. m * suc most + t + 1 ≤ a * suc most + u in
    subst P (sym same) (by_parts (n - (m + 1)))
  where
    by_parts : (d : ℕ) → m * suc most + t + 1 ≤ (m + 1 + d) * suc most + u
    by_parts d = omega (arith, k)

lighter : (b c : Board) (most : ℕ) → IsLess b c → work_left b ≤ most → weight most c + 1 ≤ weight most b
lighter b c most (inl h) within =
    let few = few_to_do c.tree in
    lower (work_left b) (work_left c) most (count_to_do c) (count_to_do b) h (rest (work_left b) (work_left c) ((c.split_limit - made c.tree) * 2) (sum_of_leaves not_ended c.tree) (count_to_do c) most h few within refl)
  where
    rest : (n m twice ends t most : ℕ) → m + 1 ≤ n → t ≤ ends → n ≤ most → m ≡ twice + ends → t ≤ most
    rest n m twice ends t most h k w e = omega (arith, h, k, w, e)
lighter b c most (inr h) within =
    let same = h.0 in
    let fewer = h.1 in
    equal (work_left b) (work_left c) most (count_to_do c) (count_to_do b) same fewer
  where
    equal : (n m most t u : ℕ) → m ≡ n → t + 1 ≤ u → m * suc most + t + 1 ≤ n * suc most + u
    equal n m most t u e h = let P : ℕ → Type 0 = λ a. m * suc most + t + 1 ≤ a * suc most + u in subst P e (omega (arith, h))

no_more_left : (b c : Board) (most : ℕ) → IsLess b c → work_left b ≤ most → work_left c ≤ most
no_more_left b c most (inl h) k = omega (arith, h, k)
no_more_left b c most (inr h) k = let same = h.0 in omega (arith, same, k)

pub between : (b c : Board) (most : ℕ) (more : Bool) → IsNext b more c → work_left b ≤ most → IsBetween most more c
between b c most true h k = (h.going, no_more_left b c most h.less k)
between b c most false h k = h

next_smaller : (b c : Board) (most : ℕ) (more : Bool) → IsNext b more c → work_left b ≤ most → cond more (suc (weight most c)) 0 < suc (weight most b)
next_smaller b c most true h k = let l = lighter b c most h.less k in omega (arith, l)
next_smaller b c most false h k = omega arith

pub smaller : (b c : Board) (most : ℕ) (before more : Bool) → before ≡ true → IsNext b more c → work_left b ≤ most → cond more (suc (weight most c)) 0 < cond before (suc (weight most b)) 0
smaller b c most before more e h k =
    let P : Bool → Type 0 = λ t. cond more (suc (weight most c)) 0 < cond t (suc (weight most b)) 0 in
    subst P (sym e) (next_smaller b c most more h k)
