-- Each event keeps a kept board.
use Rattle.std.proofs.Common.{◌≡◌, ◌∙◌, ℕ, ◌+◌, ◌-◌, min, ◌≤◌, List, [], ◌∷◌, ◌++◌, Bool, true, false, refl, sym, ap, subst, cond, option_map, Option, Some, None, IfSome, length, ◌==◌, length-append, arith, ⊎_elim}
use Rattle.std.specs.List.{AllByRecursion}
use Rattle.std.proofs.lemmas.Bool.Decides.{nat_tests}
use Rattle.rational.specs.Rational.{Rational, ◌≤ℚ◌, ◌*ℚ◌}
use Rattle.rational.proofs.Laws as Q
use Rattle.rational.proofs.Laws.{less_true}
use Rattle.milp.specs.Problem.{Problem}
use Rattle.milp.specs.Points.{Feasible, objective_value, sign_of}
use Rattle.rational.specs.Compare.{is_less}
use Rattle.verdicts.specs.Certificate.{Side as SideOf, Derived}
use Rattle.certificate.specs.declared.split.Side.{Side}
use Rattle.search_tree.specs.declared.leaf.Lease.{Lease}
use Rattle.search_tree.specs.declared.leaf.Leaf.{Leaf}
use Rattle.search_tree.specs.declared.leaf.Leaf.TheVariants.{Todo, Treated, Leased, Refuted, Bounded, NotFitting, AtLimit}
use Rattle.search_tree.specs.Tree.{Tree, AtLeaf, IsTodo, lease_of, at_place, replaced, sides_to, made, of_lease, granted, reclaimed, leased_under}
use Rattle.search_tree.specs.declared.event.Event.{Event}
use Rattle.search_tree.specs.declared.event.Reply.{Reply}
use Rattle.search_tree.specs.declared.event.Entry.{Entry}
use Rattle.search_tree.specs.declared.event.Event.TheVariants.{Leasing, Idling, Grafting, Offering, Reclaiming}
use Rattle.search_tree.specs.declared.event.Reply.TheVariants.{Given, StillLeased, Best, Done}
use Rattle.search_tree.specs.Board.{value_told, IsTold, Board, value_of, after, most_granted, next_grant, next_lease, better_of}
use Rattle.search_tree.specs.Kept.{HasSums, IsNoBetter, IsKept}
use Rattle.search_tree.specs.Nodes.{IsHonestSplit, KeepsLeaf}
use Rattle.search_tree.specs.Steps.{IsSound, Step}
use Rattle.search_tree.proofs.Passing.{bound_too}
use Rattle.search_tree.proofs.Trees.{todo_not_leased, all_leaves, leaves_replaced, splits_replaced, made_replaced, sum_replaced, none_leased, made_reclaimed, reclaimed_none_leased, splits_reclaimed, leaves_reclaimed}

abbrev grant_in : Leaf → ℕ
grant_in leaf = of_lease (λ lease. lease.grant) (lease_of leaf)

abbrev under_in : ℕ → Leaf → ℕ
under_in n leaf = of_lease (λ lease. cond (lease.number == n) 1 0) (lease_of leaf)

-- ---- a better value

pub leaf_as_good : (p : Problem) (ds : List Derived) (limit : ℕ) (goal best : Option Rational) → IfSome goal (IsNoBetter p best) → (sides : List SideOf) (leaf : Leaf) → KeepsLeaf p ds limit goal sides leaf → KeepsLeaf p ds limit best sides leaf
leaf_as_good p ds limit goal best h sides (Todo hint) k = tt
leaf_as_good p ds limit goal best h sides (Treated hint) k = k
leaf_as_good p ds limit goal best h sides (Leased lease) k = tt
leaf_as_good p ds limit goal best h sides (Refuted w) k = k
leaf_as_good p ds limit goal best h sides (Bounded w) k = bound_too p ds sides w goal best h k
leaf_as_good p ds limit goal best h sides (NotFitting e) k = k
leaf_as_good p ds limit goal best h sides (AtLimit bases) k = k

-- ---- the log

IsTold_no_better : (p : Problem) (best : Option Rational) (v : Rational) (log : List Entry) → AllByRecursion (λ (e : Entry). IfSome (value_told e.reply) (IsNoBetter p best)) log → IsTold v log → IsNoBetter p best v
IsTold_no_better p best v [] all told = absurd told
IsTold_no_better p best v (e ∷ log) all told =
    let P : Option Rational → Type 0 = λ o. IfSome o (IsNoBetter p best) in
    ⊎_elim (λ here. subst P here all.0) (λ later. IsTold_no_better p best v log all.1 later) told

one_more : (P : Entry → Type 0) (log : List Entry) (e : Entry) → AllByRecursion P log → P e → AllByRecursion P (log ++ e ∷ [])
one_more P [] e h k = (k, tt)
one_more P (d ∷ log) e h k = (h.0, one_more P log e h.1 k)

all_as_good : (P R : Rational → Type 0) → ((v : Rational) → P v → R v) → (log : List Entry) → AllByRecursion (λ (e : Entry). IfSome (value_told e.reply) P) log → AllByRecursion (λ (e : Entry). IfSome (value_told e.reply) R) log
all_as_good P R f [] h = tt
all_as_good P R f (e ∷ log) h = (go (value_told e.reply) h.0, all_as_good P R f log h.1)
  where
    go : (o : Option Rational) → IfSome o P → IfSome o R
    go None k = tt
    go (Some v) k = f v k

own_value : (p : Problem) (best : Option Rational) → IfSome best (IsNoBetter p best)
own_value p None = tt
own_value p (Some v) = Q.le_refl (sign_of p.direction *ℚ v)

-- ---- numbers of leases

-- after a lease with the number of the log's length
one_more_lease : (n number old new : ℕ) → new + 0 ≡ old + cond (number == n) 1 0 → (number ≤ n → old ≡ 0) → old ≤ 1 → new ≤ 1
one_more_lease n number old new e none one = go (number == n) refl
  where
    reaches : (a b : ℕ) → (a == b) ≡ true → a ≤ b
    reaches a b h = grind (arith, nat_tests)

    go : (t : Bool) → (number == n) ≡ t → new ≤ 1
    go true h = let gone : old ≡ 0 = none (reaches number n h) in let sum : new + 0 ≡ old + 1 = rw h at e in omega arith
    go false h = let sum : new + 0 ≡ old + 0 = rw h at e in omega arith

no_lease_to_come : (n number old new log : ℕ) → number ≡ log → log + 1 ≤ n → new + 0 ≡ old + cond (number == n) 1 0 → (log ≤ n → old ≡ 0) → new ≡ 0
no_lease_to_come n number old new log same later e none = go (number == n) refl
  where
    apart : (a b : ℕ) → a + 1 ≤ b → (a == b) ≡ false
    apart a b h = grind (arith, nat_tests)

    go : (t : Bool) → (number == n) ≡ t → new ≡ 0
    go true h = let never : (number == n) ≡ false = apart number n (omega arith) in let k : true ≡ false = sym h ∙ never in cc
    go false h = let gone : old ≡ 0 = none (omega arith) in let sum : new + 0 ≡ old + 0 = rw h at e in omega arith

longer : (b : Board) (e : Entry) (n : ℕ) → IsKept b → length (b.log ++ e ∷ []) ≤ n → leased_under n b.tree ≡ 0
longer b e n k h = let size = length-append b.log (e ∷ []) in k.none_to_come n (omega arith)

-- ---- leases

grant_fits : (done limit most : ℕ) → done ≤ limit → done + min most (limit - done) ≤ limit
grant_fits done limit most h = omega arith

lease_kept : (b : Board) (seat : ℕ) (way : List Side) (leaf : Leaf) → IsKept b → IsTodo leaf → at_place b.tree way ≡ Some (AtLeaf leaf) → IsKept (after b (replaced b.tree way (AtLeaf (Leased (next_lease b)))) b.best (Leasing seat) (Given way (next_lease b)))
lease_kept b seat way leaf k todo h =
    let new : Tree = AtLeaf (Leased (next_lease b)) in
    let free = todo_not_leased leaf todo in
    let made_more : made (replaced b.tree way new) ≡ made b.tree + 0 = made_replaced b.tree way leaf new h in
    let none_held : grant_in leaf ≡ 0 = ap (of_lease (λ lease. lease.grant)) free in
    let granted_more : granted (replaced b.tree way new) + grant_in leaf ≡ granted b.tree + next_grant b = sum_replaced grant_in b.tree way leaf new h in
    let fits = grant_fits (made b.tree + granted b.tree) b.split_limit most_granted k.within in
    let under : (n : ℕ) → leased_under n (replaced b.tree way new) + 0 ≡ leased_under n b.tree + under_in n (Leased (next_lease b)) = λ n. ap (λ m. leased_under n (replaced b.tree way new) + m) (sym (ap (of_lease (λ lease. cond (lease.number == n) 1 0)) free)) ∙ sum_replaced (under_in n) b.tree way leaf new h in
    record {
      best = k.best;
      replies = one_more (λ (e : Entry). IfSome (value_told e.reply) (IsNoBetter b.problem (value_of b))) b.log (record { event = Leasing seat; reply = Given way (next_lease b) }) k.replies (own_value b.problem (value_of b));
      cuts = k.cuts;
      splits = splits_replaced (IsHonestSplit b.problem b.cuts) b.tree way (AtLeaf (Leased (next_lease b))) [] k.splits tt;
      leaves = leaves_replaced (KeepsLeaf b.problem b.cuts b.pivot_limit (value_of b)) b.tree way (AtLeaf (Leased (next_lease b))) [] k.leaves tt;
      one_lease = λ n. one_more_lease n (length b.log) (leased_under n b.tree) _ (under n) (k.none_to_come n) (k.one_lease n);
      none_to_come = λ n later. let size = length-append b.log (record { event = Leasing seat; reply = Given way (next_lease b) } ∷ []) in
          no_lease_to_come n (length b.log) (leased_under n b.tree) _ (length b.log) refl (omega arith) (under n) (k.none_to_come n);
      within = sum_within (made (replaced b.tree way (AtLeaf (Leased (next_lease b))))) (granted (replaced b.tree way (AtLeaf (Leased (next_lease b))))) (made b.tree) (granted b.tree) (next_grant b) (grant_in leaf) b.split_limit made_more granted_more none_held fits;
    }
  where
    sum_within : (m g m0 g0 n held limit : ℕ) → m ≡ m0 + 0 → g + held ≡ g0 + n → held ≡ 0 → m0 + g0 + n ≤ limit → m + g ≤ limit
    sum_within m g m0 g0 n held limit e f none h = omega arith

-- ---- grafts

goal_as_good : (p : Problem) (best goal : Option Rational) (log : List Entry) → AllByRecursion (λ (e : Entry). IfSome (value_told e.reply) (IsNoBetter p best)) log → IfSome goal (λ v. IsTold v log) → IfSome goal (IsNoBetter p best)
goal_as_good p best None log all h = tt
goal_as_good p best (Some v) log all h = IsTold_no_better p best v log all h

graft_kept : (b : Board) (seat : ℕ) (lease : Lease) (t : Tree) (way : List Side) → IsKept b → at_place b.tree way ≡ Some (AtLeaf (Leased lease)) → IsSound b (sides_to b.tree way []) t → made t ≤ lease.grant → IsKept (after b (replaced b.tree way t) b.best (Grafting seat lease t) (Best (value_of b)))
graft_kept b seat lease t way k h s fits = record {
  best = k.best;
  replies = one_more (λ (e : Entry). IfSome (value_told e.reply) (IsNoBetter b.problem (value_of b))) b.log (record { event = Grafting seat lease t; reply = Best (value_of b) }) k.replies (own_value b.problem (value_of b));
  cuts = k.cuts;
  splits = splits_replaced (IsHonestSplit b.problem b.cuts) b.tree way t [] k.splits s.splits;
  leaves = leaves_replaced (KeepsLeaf b.problem b.cuts b.pivot_limit (value_of b)) b.tree way t [] k.leaves
      (all_leaves (KeepsLeaf b.problem b.cuts b.pivot_limit s.goal) (KeepsLeaf b.problem b.cuts b.pivot_limit (value_of b))
      (leaf_as_good b.problem b.cuts b.pivot_limit s.goal (value_of b) (goal_as_good b.problem (value_of b) s.goal b.log k.replies s.is_told)) t (sides_to b.tree way []) s.leaves);
  one_lease = λ n. let gone = none_leased (λ lease. cond (lease.number == n) 1 0) t (sides_to b.tree way []) s.none_leased in let old = k.one_lease n in let more = sum_replaced (under_in n) b.tree way (Leased lease) t h in omega arith;
  none_to_come = λ n later. let gone = none_leased (λ lease. cond (lease.number == n) 1 0) t (sides_to b.tree way []) s.none_leased in let old = longer b (record { event = Grafting seat lease t; reply = Best (value_of b) }) n k later in let more = sum_replaced (under_in n) b.tree way (Leased lease) t h in omega arith;
  within = sum_within (made (replaced b.tree way t)) (granted (replaced b.tree way t)) (made b.tree) (granted b.tree) (made t) (granted t) lease.grant b.split_limit
      (made_replaced b.tree way (Leased lease) t h) (sum_replaced grant_in b.tree way (Leased lease) t h) (none_leased (λ lease. lease.grant) t (sides_to b.tree way []) s.none_leased) fits k.within;
}
  where
    sum_within : (m g m0 g0 n left grant limit : ℕ) → m ≡ m0 + n → g + grant ≡ g0 + left → left ≡ 0 → n ≤ grant → m0 + g0 ≤ limit → m + g ≤ limit
    sum_within m g m0 g0 n left grant limit e f none h k = omega arith

-- ---- offers

better_kept : (p : Problem) (best : Option (List Rational)) (x : List Rational) → IfSome best (λ y. Feasible p y × HasSums p y) → Feasible p x → HasSums p x → Feasible p (better_of p best x) × HasSums p (better_of p best x)
better_kept p None x h f s = (f, s)
better_kept p (Some y) x h f s = go (is_less (sign_of p.direction *ℚ objective_value p x) (sign_of p.direction *ℚ objective_value p y))
  where
    go : (t : Bool) → Feasible p (cond t x y) × HasSums p (cond t x y)
    go true = (f, s)
    go false = h

better_value : (p : Problem) (best : Option (List Rational)) (x : List Rational) (v : Rational) → IsNoBetter p (option_map (objective_value p) best) v → IsNoBetter p (Some (objective_value p (better_of p best x))) v
better_value p None x v h = absurd h
better_value p (Some y) x v h = go (is_less (sign_of p.direction *ℚ objective_value p x) (sign_of p.direction *ℚ objective_value p y)) refl
  where
    go : (t : Bool) → is_less (sign_of p.direction *ℚ objective_value p x) (sign_of p.direction *ℚ objective_value p y) ≡ t → sign_of p.direction *ℚ objective_value p (cond t x y) ≤ℚ sign_of p.direction *ℚ v
    go true e = Q.le_trans _ _ _ (Q.le_of_lt _ _ (less_true _ _ e)) h
    go false e = h

own_better : (p : Problem) (best : Option (List Rational)) (x : List Rational) → IfSome (option_map (objective_value p) best) (IsNoBetter p (Some (objective_value p (better_of p best x))))
own_better p None x = tt
own_better p (Some y) x = better_value p (Some y) x (objective_value p y) (Q.le_refl _)

offer_kept : (b : Board) (seat : ℕ) (x : List Rational) → IsKept b → Feasible b.problem x → HasSums b.problem x → IsKept (after b b.tree (Some (better_of b.problem b.best x)) (Offering seat x) (Best (Some (objective_value b.problem (better_of b.problem b.best x)))))
offer_kept b seat x k f s =
    let best = Some (objective_value b.problem (better_of b.problem b.best x)) in
    record {
      best = better_kept b.problem b.best x k.best f s;
      replies = one_more (λ (e : Entry). IfSome (value_told e.reply) (IsNoBetter b.problem best)) b.log (record { event = Offering seat x; reply = Best best })
          (all_as_good (IsNoBetter b.problem (value_of b)) (IsNoBetter b.problem best) (better_value b.problem b.best x) b.log k.replies) (own_value b.problem best);
      cuts = k.cuts;
      splits = k.splits;
      leaves = all_leaves (KeepsLeaf b.problem b.cuts b.pivot_limit (value_of b)) (KeepsLeaf b.problem b.cuts b.pivot_limit best) (leaf_as_good b.problem b.cuts b.pivot_limit (value_of b) best (own_better b.problem b.best x)) b.tree [] k.leaves;
      within = k.within;
      one_lease = k.one_lease;
      none_to_come = λ n later. longer b (record { event = Offering seat x; reply = Best best }) n k later;
    }

-- ---- reclaimed leaves

reclaim_kept : (b : Board) → IsKept b → IsKept (after b (reclaimed b.tree) b.best Reclaiming Done)
reclaim_kept b k = record {
  best = k.best;
  replies = one_more (λ (e : Entry). IfSome (value_told e.reply) (IsNoBetter b.problem (value_of b))) b.log (record { event = Reclaiming; reply = Done }) k.replies tt;
  cuts = k.cuts;
  splits = splits_reclaimed (IsHonestSplit b.problem b.cuts) b.tree [] k.splits;
  leaves = leaves_reclaimed (KeepsLeaf b.problem b.cuts b.pivot_limit (value_of b)) (λ sides. tt) b.tree [] k.leaves;
  one_lease = λ n. let gone = none_leased (λ lease. cond (lease.number == n) 1 0) (reclaimed b.tree) [] (reclaimed_none_leased b.tree []) in omega arith;
  none_to_come = λ n later. none_leased (λ lease. cond (lease.number == n) 1 0) (reclaimed b.tree) [] (reclaimed_none_leased b.tree []);
  within = let none = none_leased (λ lease. lease.grant) (reclaimed b.tree) [] (reclaimed_none_leased b.tree []) in sum_within (made (reclaimed b.tree)) (granted (reclaimed b.tree)) (made b.tree) (granted b.tree) b.split_limit (made_reclaimed b.tree) none k.within;
}
  where
    sum_within : (m g m0 g0 limit : ℕ) → m ≡ m0 → g ≡ 0 → m0 + g0 ≤ limit → m + g ≤ limit
    sum_within m g m0 g0 limit e f h = omega arith

idle_kept : (b : Board) (seat count : ℕ) → IsKept b → IsKept (after b b.tree b.best (Idling seat) (StillLeased count))
idle_kept b seat count k = record {
  best = k.best;
  replies = one_more (λ (e : Entry). IfSome (value_told e.reply) (IsNoBetter b.problem (value_of b))) b.log (record { event = Idling seat; reply = StillLeased count }) k.replies tt;
  cuts = k.cuts;
  splits = k.splits;
  leaves = k.leaves;
  one_lease = k.one_lease;
  none_to_come = λ n later. longer b (record { event = Idling seat; reply = StillLeased count }) n k later;
  within = k.within;
}

-- ---- all events

pub step_kept : (b c : Board) (event : Event) (reply : Reply) → IsKept b → Step b event reply c → IsKept c
step_kept b c (Leasing seat) (Given way lease) k s =
    let P : Lease → Type 0 = λ given. IsKept (after b (replaced b.tree way (AtLeaf (Leased given))) b.best (Leasing seat) (Given way given)) in
    rw s.new (subst P (sym s.is_lease) (lease_kept b seat way s.leaf k s.is_todo s.there))
step_kept b c (Idling seat) (StillLeased count) k s = rw s.new (idle_kept b seat count k)
step_kept b c (Grafting seat lease t) (Best best) k s =
    let P : Option Rational → Type 0 = λ told. IsKept (after b (replaced b.tree s.way t) b.best (Grafting seat lease t) (Best told)) in
    rw s.new (subst P (sym s.is_best) (graft_kept b seat lease t s.way k s.may.is_leased s.may.sound s.may.within))
step_kept b c (Offering seat x) (Best best) k s =
    let P : Option Rational → Type 0 = λ told. IsKept (after b b.tree (Some (better_of b.problem b.best x)) (Offering seat x) (Best told)) in
    rw s.new (subst P (sym s.is_best) (offer_kept b seat x k s.feasible s.sums))
step_kept b c Reclaiming Done k s = rw s.new (reclaim_kept b k)
step_kept b c event reply k s = absurd s
