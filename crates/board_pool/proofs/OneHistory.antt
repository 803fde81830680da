-- A log leads from its opening board to one board alone.
use Rattle.std.proofs.Common.{◌≡◌, ◌≤◌, eq-eqb, cond, List, [], ◌∷◌, Some, refl, sym, ap, ◌∙◌, subst, arith}
use Rattle.certificate.specs.declared.split.Side.{Side}
use Rattle.certificate.specs.declared.split.Side.TheVariants.{Low, High}
use Rattle.search_tree.specs.declared.leaf.Lease.{Lease}
use Rattle.search_tree.specs.declared.leaf.Leaf.TheVariants.{Leased}
use Rattle.search_tree.specs.declared.event.Event.{Event}
use Rattle.search_tree.specs.declared.event.Event.TheVariants.{Leasing, Idling, Grafting, Offering, Reclaiming}
use Rattle.search_tree.specs.declared.event.Reply.{Reply}
use Rattle.search_tree.specs.declared.event.Reply.TheVariants.{Given, StillLeased, Best, Done}
use Rattle.search_tree.specs.declared.event.Entry.{Entry}
use Rattle.search_tree.specs.Tree.{Tree, Divided, AtLeaf, at_place, replaced, leased_under}
use Rattle.search_tree.specs.Board.{Board, after}
use Rattle.search_tree.specs.Kept.{IsKept}
use Rattle.search_tree.specs.Steps.{Step, IsHistory}

-- the leaf of a lease is counted under its number
counted : (t : Tree) (way : List Side) (lease : Lease) → at_place t way ≡ Some (AtLeaf (Leased lease)) → 1 ≤ leased_under lease.number t
counted (AtLeaf leaf) [] lease there =
    let is : leaf ≡ Leased lease = cc in
    let one : leased_under lease.number (AtLeaf leaf) ≡ 1 = ap (λ x. leased_under lease.number (AtLeaf x)) is ∙ ap (λ same. cond same 1 0) (eq-eqb lease.number lease.number refl) in
    omega arith
counted (AtLeaf leaf) (side ∷ way) lease there = cc
counted (Divided s low high) [] lease there = cc
counted (Divided s low high) (Low ∷ way) lease there = let one = counted low way lease there in omega arith
counted (Divided s low high) (High ∷ way) lease there = let one = counted high way lease there in omega arith

-- where no more than one leaf is counted under its number, a lease has one place
one_place : (t : Tree) (way other : List Side) (lease : Lease) → at_place t way ≡ Some (AtLeaf (Leased lease)) → at_place t other ≡ Some (AtLeaf (Leased lease)) → leased_under lease.number t ≤ 1 → way ≡ other
one_place (AtLeaf leaf) [] [] lease there at one = refl
one_place (AtLeaf leaf) [] (side ∷ other) lease there at one = cc
one_place (AtLeaf leaf) (side ∷ way) other lease there at one = cc
one_place (Divided s low high) [] other lease there at one = cc
one_place (Divided s low high) (side ∷ way) [] lease there at one = cc
one_place (Divided s low high) (Low ∷ way) (Low ∷ other) lease there at one = ap (λ (w : List Side). Low ∷ w) (one_place low way other lease there at (omega arith))
one_place (Divided s low high) (Low ∷ way) (High ∷ other) lease there at one = let a = counted low way lease there in let b = counted high other lease at in absurd (omega arith)
one_place (Divided s low high) (High ∷ way) (Low ∷ other) lease there at one = let a = counted high way lease there in let b = counted low other lease at in absurd (omega arith)
one_place (Divided s low high) (High ∷ way) (High ∷ other) lease there at one = ap (λ (w : List Side). High ∷ w) (one_place high way other lease there at (omega arith))

-- an event with its reply makes one board of each kept one
one_step : (b c d : Board) (event : Event) (reply : Reply) → IsKept b → Step b event reply c → Step b event reply d → c ≡ d
one_step b c d (Leasing seat) (Given way lease) k s t = s.new ∙ sym t.new
one_step b c d (Idling seat) (StillLeased n) k s t = s.new ∙ sym t.new
one_step b c d (Grafting seat lease u) (Best best) k s t =
    let same = one_place b.tree s.way t.way lease s.may.is_leased t.may.is_leased (k.one_lease lease.number) in
    s.new ∙ (ap (λ (way : List Side). after b (replaced b.tree way u) b.best (Grafting seat lease u) (Best best)) same ∙ sym t.new)
one_step b c d (Offering seat x) (Best best) k s t = s.new ∙ sym t.new
one_step b c d Reclaiming Done k s t = s.new ∙ sym t.new
one_step b c d event reply k s t = absurd s

-- each event keeps a board
abbrev pub StepsKeep : Type 0
StepsKeep = (b c : Board) (event : Event) (reply : Reply) → IsKept b → Step b event reply c → IsKept c

-- a log leads to one board
pub one_history : StepsKeep → (b c d : Board) (log : List Entry) → IsKept b → IsHistory b log c → IsHistory b log d → c ≡ d
one_history step_kept b c d [] k h i = sym h ∙ i
one_history step_kept b c d (e ∷ log) k h i =
    let same = one_step b h.0 i.0 e.event e.reply k h.1 i.1 in
    one_history step_kept h.0 c d log (step_kept b h.0 e.event e.reply k h.1) h.2 (subst (λ (x : Board). IsHistory x log d) (sym same) i.2)
