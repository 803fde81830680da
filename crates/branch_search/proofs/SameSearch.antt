-- What a round makes of a board keeps its problem, its cuts and its limits, and so the causes of faults.
use Rattle.std.proofs.Common.{◌≡◌, ◌∙◌, ℕ, List, [], refl, sym, subst, Option, Some, Result, Ok, Err, IfOk, OnOk, OnErr}
use Rattle.rational.specs.Rational.{Rational}
use Rattle.search_tree.specs.declared.event.Event.{Event}
use Rattle.search_tree.specs.declared.event.Event.TheVariants.{Leasing, Idling, Grafting, Offering, Reclaiming}
use Rattle.search_tree.specs.declared.event.Reply.{Reply}
use Rattle.search_tree.specs.declared.event.Reply.TheVariants.{Given, StillLeased, Best, Done}
use Rattle.search_tree.specs.declared.leaf.Lease.{Lease}
use Rattle.search_tree.specs.declared.leaf.Leaf.TheVariants.{Leased}
use Rattle.search_tree.specs.Tree.{Tree, AtLeaf, replaced, reclaimed}
use Rattle.search_tree.specs.Board.{Board, after, better_of}
use Rattle.search_tree.specs.Steps.{IsGraft, IsOffer, IsReclaim}
use Rattle.tree_pool.specs.Answers.{IsAnswer}
use Rattle.tree_pool.specs.declared.answer.LeaseAnswer.{LeaseAnswer}
use Rattle.tree_pool.specs.declared.answer.LeaseAnswer.TheVariants as answers
use Rattle.branch_search.specs.declared.fault.LeafFault.{LeafFault}
use Rattle.branch_search.specs.declared.fault.SearchFault.{SearchFault}
use Rattle.branch_search.specs.Faults.{IsLeafFault, IsFault}
use Rattle.branch_search.specs.Settled.{seat}
use Rattle.branch_search.specs.Underway.{AreSame}

same_after : (b : Board) (t : Tree) (best : Option (List Rational)) (event : Event) (reply : Reply) (c : Board) → c ≡ after b t best event reply → AreSame b c
same_after b t best event reply c e = subst (AreSame b) (sym e) (record { problem = refl; cuts = refl; splits = refl; pivots = refl })

same_kept : (b c : Board) → c ≡ b → AreSame b c
same_kept b c e = subst (AreSame b) (sym e) (record { problem = refl; cuts = refl; splits = refl; pivots = refl })

pub same_then : (b m c : Board) → AreSame b m → AreSame m c → AreSame b c
same_then b m c h k = record { problem = k.problem ∙ h.problem; cuts = k.cuts ∙ h.cuts; splits = k.splits ∙ h.splits; pivots = k.pivots ∙ h.pivots }

-- ---- behind a call of the board

pub same_lease : {E : Type 0} (b : Board) (r : Result LeaseAnswer E) (c : Board) → IfOk r (λ answer. IsAnswer b seat answer c) → OnErr r (c ≡ b) → AreSame b c
same_lease b (Ok (answers.Leased lease hint)) c h kept = same_after b (replaced b.tree h.0 (AtLeaf (Leased lease))) b.best (Leasing seat) (Given h.0 lease) c h.1.new
same_lease b (Ok (answers.Idle count)) c h kept = same_after b b.tree b.best (Idling seat) (StillLeased count) c h.new
same_lease b (Err e) c h kept = same_kept b c kept

pub same_graft : {E : Type 0} (b : Board) (lease : Lease) (t : Tree) (r : Result (Option Rational) E) (c : Board) → IfOk r (λ best. IsGraft b seat lease t best c) → OnErr r (c ≡ b) → AreSame b c
same_graft b lease t (Ok best) c h kept = same_after b (replaced b.tree h.way t) b.best (Grafting seat lease t) (Best best) c h.new
same_graft b lease t (Err e) c h kept = same_kept b c kept

pub same_offer : {E : Type 0} (b : Board) (x : List Rational) (r : Result (Option Rational) E) (c : Board) → IfOk r (λ best. IsOffer b seat x best c) → OnErr r (c ≡ b) → AreSame b c
same_offer b x (Ok best) c h kept = same_after b b.tree (Some (better_of b.problem b.best x)) (Offering seat x) (Best best) c h.new
same_offer b x (Err e) c h kept = same_kept b c kept

pub same_reclaim : {A E : Type 0} (b : Board) (r : Result A E) (c : Board) → OnOk r (IsReclaim b c) → OnErr r (c ≡ b) → AreSame b c
same_reclaim b (Ok done) c h kept = same_after b (reclaimed b.tree) b.best Reclaiming Done c h.new
same_reclaim b (Err e) c h kept = same_kept b c kept

-- ---- faults

-- the cause of a fault is the same in a search of the same problem within the same limits
pub leaf_fault_there : (b c : Board) (fault : LeafFault) → AreSame b c → IsLeafFault b.problem b.cuts b.split_limit b.pivot_limit fault → IsLeafFault c.problem c.cuts c.split_limit c.pivot_limit fault
leaf_fault_there b c fault same h = rw (same.problem, same.cuts, same.splits, same.pivots) h

pub fault_before : (b c : Board) (pivots : ℕ) (fault : SearchFault) → AreSame b c → b.cuts ≡ [] → b.pivot_limit ≡ pivots → IsFault c.problem c.cuts c.split_limit c.pivot_limit fault → IsFault b.problem [] b.split_limit pivots fault
fault_before b c pivots fault same none limit h = rw (sym same.problem, sym none, sym same.cuts, sym same.splits, sym limit, sym same.pivots) h
