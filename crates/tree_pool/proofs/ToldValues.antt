-- The value of the best point was told.
use Rattle.std.proofs.Common.{◌≡◌, List, [], ◌∷◌, ◌++◌, subst, sym, Option, Some, None, IfSome, ⊎_elim, inl, inr}
use Rattle.rational.specs.Rational.{Rational}
use Rattle.search_tree.specs.declared.event.Event.{Event}
use Rattle.search_tree.specs.declared.event.Event.TheVariants.{Leasing, Idling, Grafting, Offering, Reclaiming}
use Rattle.search_tree.specs.declared.event.Reply.{Reply}
use Rattle.search_tree.specs.declared.event.Reply.TheVariants.{Given, StillLeased, Best, Done}
use Rattle.search_tree.specs.declared.event.Entry.{Entry}
use Rattle.milp.specs.Points.{objective_value}
use Rattle.search_tree.specs.declared.leaf.Leaf.TheVariants.{Leased}
use Rattle.search_tree.specs.Board.{Board, value_of, value_told, IsTold, after, better_of}
use Rattle.search_tree.specs.Tree.{Tree, AtLeaf, replaced, reclaimed}
use Rattle.search_tree.specs.Steps.{Step, IsHistory, IsReplay, opening}

abbrev IsBestTold : Board → Type 0
IsBestTold b = IfSome (value_of b) (λ v. IsTold v b.log)

told_before : (v : Rational) (log more : List Entry) → IsTold v log → IsTold v (log ++ more)
told_before v [] more h = absurd h
told_before v (e ∷ log) more h = ⊎_elim (λ l. inl l) (λ r. inr (told_before v log more r)) h

told_last : (v : Rational) (log : List Entry) (e : Entry) → value_told e.reply ≡ Some v → IsTold v (log ++ e ∷ [])
told_last v [] e h = inl h
told_last v (d ∷ log) e h = inr (told_last v log e h)

same_best : (b : Board) (t : Tree) (event : Event) (reply : Reply) → IsBestTold b → IsBestTold (after b t b.best event reply)
same_best b t event reply = go (value_of b)
  where
    go : (o : Option Rational) → IfSome o (λ v. IsTold v b.log) → IfSome o (λ v. IsTold v (b.log ++ record { event = event; reply = reply } ∷ []))
    go None h = tt
    go (Some v) h = told_before v b.log (record { event = event; reply = reply } ∷ []) h

step_told : (b c : Board) (event : Event) (reply : Reply) → IsBestTold b → Step b event reply c → IsBestTold c
step_told b c (Leasing seat) (Given way lease) h s = subst IsBestTold (sym s.new) (same_best b (replaced b.tree way (AtLeaf (Leased lease))) (Leasing seat) (Given way lease) h)
step_told b c (Idling seat) (StillLeased count) h s = subst IsBestTold (sym s.new) (same_best b b.tree (Idling seat) (StillLeased count) h)
step_told b c (Grafting seat lease t) (Best best) h s = subst IsBestTold (sym s.new) (same_best b (replaced b.tree s.way t) (Grafting seat lease t) (Best best) h)
step_told b c (Offering seat x) (Best best) h s = subst IsBestTold (sym s.new) (told_last (objective_value b.problem (better_of b.problem b.best x)) b.log (record { event = Offering seat x; reply = Best best }) s.is_best)
step_told b c Reclaiming Done h s = subst IsBestTold (sym s.new) (same_best b (reclaimed b.tree) Reclaiming Done h)
step_told b c event reply h s = absurd s

history_told : (b : Board) (log : List Entry) (c : Board) → IsBestTold b → IsHistory b log c → IsBestTold c
history_told b [] c k h = subst IsBestTold h k
history_told b (e ∷ log) c k h = history_told h.0 log c (step_told b h.0 e.event e.reply k h.1) h.2

pub best_told : (b : Board) → IsReplay b → IfSome (value_of b) (λ v. IsTold v b.log)
best_told b h = history_told (opening b) b.log b tt h.history
