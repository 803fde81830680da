-- Honest ways are over the problem's columns; how a search begins and ends.
use Rattle.std.proofs.Common.{◌≡◌, ℕ, zero, suc, ◌<◌, ◌≤◌, ◌+◌, inl, inr, List, [], ◌∷◌, length, Bool, true, false, refl, sym, subst, Option, Some, IfSome, slice_get, Result, Ok, Err, IfOk, arith}
use Rattle.milp.specs.Form.{Entry}
use Rattle.milp.specs.Problem.{Column, Problem}
use Rattle.verdicts.specs.WeightedSums.{AllBelow}
use Rattle.verdicts.specs.Certificate.{Split, Side as SideOf, Low as LowOf, High as HighOf, Derived}
use Rattle.verdicts.specs.Proves.{is_integer}
use Rattle.certificate.specs.Written.{column_form, split_column}
use Rattle.certificate.specs.declared.split.Side.{Side}
use Rattle.basis.specs.Node.{IsOverColumns, split_form, integer_at}
use Rattle.search_tree.specs.declared.leaf.Lease.{Lease}
use Rattle.search_tree.specs.declared.leaf.Leaf.{Leaf}
use Rattle.search_tree.specs.declared.leaf.Leaf.TheVariants.{Todo, Treated, Leased, Refuted, Bounded, NotFitting, AtLimit}
use Rattle.search_tree.specs.declared.event.Event.TheVariants.{Reclaiming}
use Rattle.search_tree.specs.declared.event.Reply.TheVariants.{Done}
use Rattle.search_tree.specs.Tree.{Tree, Divided, AtLeaf, IsTodo, AllLeaves, lease_of, at_place, replaced, made, granted, given_back, reclaimed}
use Rattle.search_tree.specs.Steps.{IsLease, IsReclaim, IsReplay}
use Rattle.search_tree.proofs.Laws.{made_reclaimed, reclaimed_none_leased}
use Rattle.tree_pool.specs.Answers.{IsAnswer}
use Rattle.tree_pool.specs.declared.answer.LeaseAnswer.{LeaseAnswer}
use Rattle.tree_pool.specs.declared.answer.LeaseAnswer.TheVariants as answers
use Rattle.branch_search.specs.declared.settling.Round.{Round}
use Rattle.branch_search.specs.declared.settling.Round.TheVariants as rounds
use Rattle.branch_search.specs.declared.fault.LeafFault.{LeafFault}
use Rattle.branch_search.specs.Settled.{seat, IsSettled, IsRound}
use Rattle.certificate.specs.declared.split.Side.TheVariants.{Low, High}
use Rattle.search_tree.specs.Board.{Board, value_of, after}
use Rattle.search_tree.specs.Honest.{AreHonest}
use Rattle.search_tree.specs.Kept.{IsKept, closed_node}
use Rattle.search_tree.specs.Finished.{IsFinished, IsThere}
use Rattle.tree_pool.specs.Places.{IsOpen}
use Rattle.branch_search.specs.Underway.{IsStanding, IsUnderway, IsAtEnd}
use Rattle.branch_search.specs.Faults.{IsClosedOrTreated, IsStoppedBoard, IsOutOfSplits}
use Rattle.branch_search.proofs.Leased.{all_of_both}
use Rattle.branch_search.proofs.Growth.{closed_not_leased}

-- ---- honest ways

known : (columns : List Column) (j : ℕ) → is_integer (slice_get columns j) ≡ true → j < length columns
known [] j h = cc
known (c ∷ columns) zero h = omega arith
known (c ∷ columns) (suc j) h = let k = known columns j h in omega (arith, k)

own_column : (p : Problem) (s : Split) → s.form ≡ column_form (split_column s) → integer_at p (split_column s) ≡ true → AllBelow (length p.columns) s.form
own_column p s e h = let P : List Entry → Type 0 = AllBelow (length p.columns) in subst P (sym e) (known p.columns (split_column s) h, tt)

on_columns : (p : Problem) (ds : List Derived) (sides : List SideOf) → AreHonest p ds sides → (k : ℕ) → IfSome (slice_get sides k) (λ side. AllBelow (length p.columns) (split_form side))
on_columns p ds [] h k = tt
on_columns p ds (LowOf s ∷ sides) h zero = own_column p s h.0.form h.0.integer
on_columns p ds (HighOf s ∷ sides) h zero = own_column p s h.0.form h.0.integer
on_columns p ds (LowOf s ∷ sides) h (suc k) = on_columns p ds sides h.1 k
on_columns p ds (HighOf s ∷ sides) h (suc k) = on_columns p ds sides h.1 k

-- without cuts, a node on an honest way is over the problem's columns
pub over_columns : (p : Problem) (ds : List Derived) (sides : List SideOf) → ds ≡ [] → IsOverColumns p [] [] → AreHonest p ds sides → IsOverColumns p ds sides
over_columns p ds sides none root way =
    let P : List Derived → Type 0 = λ cuts. IsOverColumns p cuts sides in
    subst P (sym none) (record { objective = root.objective; rows = root.rows; derived = λ k. tt; splits = on_columns p ds sides way })

-- ---- the end

closed : (b : Board) (sides : List SideOf) (leaf : Leaf) → IsStanding b.problem b.cuts (value_of b) false sides leaf → ¬ (IsTodo leaf) → IsThere (closed_node leaf)
closed b sides leaf (inl k) none = absurd (none k)
closed b sides leaf (inr (inl k)) none = k
closed b sides leaf (inr (inr k)) none = let never : false ≡ true = k.is_out in cc

-- a leaf that was left is given back: it is to be worked on again
end : (b : Board) (sides : List SideOf) (leaf : Leaf) → IsStanding b.problem b.cuts (value_of b) true sides leaf → ¬ (IsTodo leaf) → IsClosedOrTreated b.problem b.cuts (value_of b) sides (given_back leaf (lease_of leaf))
end b sides leaf (inl k) none = absurd (none k)
end b sides leaf (inr (inl k)) none = let P : Option Lease → Type 0 = λ o. IsClosedOrTreated b.problem b.cuts (value_of b) sides (given_back leaf o) in subst P (sym (closed_not_leased leaf k)) (inl k)
end b sides leaf (inr (inr k)) none = let P : Option Lease → Type 0 = λ o. IsClosedOrTreated b.problem b.cuts (value_of b) sides (given_back leaf o) in subst P (sym k.leased) (inr (tt, k.treated))

ends : (b : Board) (t : Tree) (sides : List SideOf) → AllLeaves (IsStanding b.problem b.cuts (value_of b) true) sides t → AllLeaves (λ at leaf. ¬ (IsTodo leaf)) sides t → AllLeaves (IsClosedOrTreated b.problem b.cuts (value_of b)) sides (reclaimed t)
ends b (Divided s low high) sides h none = (ends b low (LowOf s ∷ sides) h.0 none.0, ends b high (HighOf s ∷ sides) h.1 none.1)
ends b (AtLeaf leaf) sides h none = end b sides leaf h none

closed_before : (leaf : Leaf) → IsThere (closed_node (given_back leaf (lease_of leaf))) → IsThere (closed_node leaf)
closed_before (Todo hint) h = h
closed_before (Treated hint) h = h
closed_before (Leased lease) h = absurd h
closed_before (Refuted w) h = h
closed_before (Bounded w) h = h
closed_before (NotFitting e) h = h
closed_before (AtLimit bases) h = h

-- no leaf is closed by being given back
finished_before : (t : Tree) (sides : List SideOf) → AllLeaves (λ at leaf. IsThere (closed_node leaf)) sides (reclaimed t) → AllLeaves (λ at leaf. IsThere (closed_node leaf)) sides t
finished_before (Divided s low high) sides h = (finished_before low (LowOf s ∷ sides) h.0, finished_before high (HighOf s ∷ sides) h.1)
finished_before (AtLeaf leaf) sides h = closed_before leaf h

all_made : (made granted limit : ℕ) → made + granted ≤ limit → limit ≤ made → made ≡ limit
all_made made granted limit h k = omega (arith, h, k)

-- the board on which leased leaves are given back
pub stopped_board : (b c : Board) → IsReclaim b c → IsReplay c → IsStoppedBoard b.problem b.cuts b.split_limit b.pivot_limit c
stopped_board b c back = subst P (sym back.new) (λ replay. record { replay = replay; problem = refl; cuts = refl; split_limit = refl; pivot_limit = refl; none_leased = reclaimed_none_leased b.tree [] })
  where
    P : Board → Type 0
    P d = IsReplay d → IsStoppedBoard b.problem b.cuts b.split_limit b.pivot_limit d

pub out_of_splits : (b c : Board) → IsAtEnd b → ¬ (IsFinished b) → IsReclaim b c → IsKept c → IsStoppedBoard b.problem b.cuts b.split_limit b.pivot_limit c → IsOutOfSplits b.problem b.cuts b.split_limit b.pivot_limit c
out_of_splits b c h unfinished back = subst P (sym back.new) (go h.going.0 h.going.1)
  where
    P : Board → Type 0
    P d = IsKept d → IsStoppedBoard b.problem b.cuts b.split_limit b.pivot_limit d → IsOutOfSplits b.problem b.cuts b.split_limit b.pivot_limit d

    go : (out : Bool) → IsUnderway b (value_of b) out → P (after b (reclaimed b.tree) b.best Reclaiming Done)
    go false u kept stopped = absurd (unfinished (all_of_both (IsStanding b.problem b.cuts (value_of b) false) (λ sides leaf. ¬ (IsTodo leaf)) (λ sides leaf. IsThere (closed_node leaf)) (closed b) b.tree [] u.leaves h.none_todo))
    go true u kept stopped =
        let same = made_reclaimed b.tree in
        let all = u.all_made refl in
        record {
          stopped = stopped;
          all_made = all_made (made (reclaimed b.tree)) (granted (reclaimed b.tree)) b.split_limit kept.within (omega (arith, same, all));
          honest = kept.splits;
          leaves = ends b b.tree [] u.leaves h.none_todo;
          unfinished = λ k. unfinished (finished_before b.tree [] k);
        }

-- ---- a lease

replaced_there : (t : Tree) (way : List Side) (leaf other : Tree) → at_place t way ≡ Some leaf → at_place (replaced t way other) way ≡ Some other
replaced_there t [] leaf other h = refl
replaced_there (AtLeaf l) (side ∷ way) leaf other h = cc
replaced_there (Divided s low high) (Low ∷ way) leaf other h = replaced_there low way leaf other h
replaced_there (Divided s low high) (High ∷ way) leaf other h = replaced_there high way leaf other h

open_by : (b : Board) (way : List Side) (lease : Lease) (c : Board) → IsLease b seat way lease c → IsOpen c.tree lease
open_by b way lease c h =
    let P : Board → Type 0 = λ d. IsOpen d.tree lease in
    subst P (sym h.new) (record { way = way; there = replaced_there b.tree way (AtLeaf h.leaf) (AtLeaf (Leased lease)) h.there })

pub leased_open : (b c : Board) (answer : LeaseAnswer) (lease : Lease) (hint : Unit {0}) → answer ≡ answers.Leased lease hint → IsAnswer b seat answer c → IsOpen c.tree lease
leased_open b c answer lease hint e h =
    let P : LeaseAnswer → Type 0 = λ a. IsAnswer b seat a c in
    let k = subst P e h in
    open_by b k.0 lease c k.1

settled : (b : Board) (way : List Side) (lease : Lease) (m c : Board) (round : Round) → IsLease b seat way lease m → IsSettled m lease round c → IsRound b round c
settled b way lease m c rounds.Worked l h = record { way = way; lease = lease; board = m; is_lease = l; settled = h }
settled b way lease m c rounds.Left l h = record { way = way; lease = lease; board = m; is_lease = l; settled = h }
settled b way lease m c rounds.Idle l h = absurd h

pub after_lease : (b m c : Board) (answer : LeaseAnswer) (lease : Lease) (hint : Unit {0}) (r : Result Round LeafFault) → answer ≡ answers.Leased lease hint → IsAnswer b seat answer m → IfOk r (λ round. IsSettled m lease round c) → IfOk r (λ round. IsRound b round c)
after_lease b m c answer lease hint r e h k =
    let P : LeaseAnswer → Type 0 = λ a. IsAnswer b seat a m in
    let l = subst P e h in
    go r k l
  where
    go : (r : Result Round LeafFault) → IfOk r (λ round. IsSettled m lease round c) → (way : List Side) × IsLease b seat way lease m → IfOk r (λ round. IsRound b round c)
    go (Ok round) k l = settled b l.0 lease m c round l.1 k
    go (Err fault) k l = tt
