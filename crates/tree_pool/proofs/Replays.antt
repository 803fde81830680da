-- Boards after one more event.
use Rattle.std.proofs.Common.{◌≡◌, ◌∙◌, ℕ, [], refl, sym, ap}
use Rattle.search_tree.specs.declared.event.Event.TheVariants.{Idling, Reclaiming}
use Rattle.search_tree.specs.declared.event.Reply.TheVariants.{StillLeased, Done}
use Rattle.search_tree.specs.Tree.{Tree, IsTodo, AllLeaves, leased, granted, reclaimed}
use Rattle.search_tree.specs.Board.{Board, after}
use Rattle.search_tree.specs.Steps.{IsReplay, opening}
use Rattle.search_tree.proofs.Laws.{none_leased, one_more, reclaimed_none_leased}

pub idle_replays : (b : Board) (seat count : ℕ) → IsReplay b → AllLeaves (λ sides leaf. ¬ (IsTodo leaf)) [] b.tree → count ≡ leased b.tree → IsReplay (after b b.tree b.best (Idling seat) (StillLeased count))
idle_replays b seat count h none is_count = record { cuts = h.cuts; history = one_more (opening b) b.log b (after b b.tree b.best (Idling seat) (StillLeased count)) (record { event = Idling seat; reply = StillLeased count }) h.history (record { none_todo = none; is_count = is_count; new = refl }) }

pub reclaim_replays : (b : Board) (t : Tree) → IsReplay b → t ≡ reclaimed b.tree → IsReplay (after b t b.best Reclaiming Done)
reclaim_replays b t h is_tree = record { cuts = h.cuts; history = one_more (opening b) b.log b (after b t b.best Reclaiming Done) (record { event = Reclaiming; reply = Done }) h.history (record { new = ap (λ u. after b u b.best Reclaiming Done) is_tree }) }

pub none_granted : (t new : Tree) → new ≡ reclaimed t → 0 ≡ granted new
none_granted t new h = sym (ap granted h ∙ none_leased (λ lease. lease.grant) (reclaimed t) [] (reclaimed_none_leased t []))
